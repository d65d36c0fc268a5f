-- What a rousing, a missed start and an abort leave.
use Rattle.std.proofs.Common.{◌≡◌, ℕ, ◌<◌, ◌≤◌, Bool, true, false, cond, ◌&&◌, leb, List, [], ◌∷◌, ◌++◌, map, Some, None, filter, sym, refl, ap, ◌∙◌, subst, append_assoc, arith}
use Rattle.std.specs.List.{flat_map}
use Rattle.std.proofs.lemmas.Bool.{cond-true, cond-false, cond_both, le-leb, ne_eqb, and_left}
use Rattle.sheet.specs.declared.event.Event.{Event}
use Rattle.sheet.specs.declared.event.Kind.TheVariants.{Accepted, Missed}
use Rattle.sheet.specs.Events.{event}
use Rattle.roll.specs.declared.entry.Entry.{Entry}
use Rattle.roll.specs.Entries.{of?, marked, marking}
use Rattle.roll.proofs.Bests.{kept_by_same, kept_by_both}
use Rattle.table.specs.declared.firing.Firing.{Firing}
use Rattle.table.specs.declared.firing.Firing.TheVariants.{Start, Rouse}
use Rattle.table.specs.declared.timer.TimerPlace.{TimerPlace}
use Rattle.table.specs.Rows.{listed, lefts, firings, all_fired, all_told}
use Rattle.table.specs.Timers.{timer_place, timer_after, timer_fires}
use Rattle.rules.specs.declared.answer.Code.TheVariants.{Done}
use Rattle.rules.specs.declared.call.Call.TheVariants.{Tick}
use Rattle.rules.specs.declared.call.Macro.TheVariants.{Abort}
use Rattle.rules.specs.State.{Setup, Tasks, State, running}
use Rattle.rules.specs.Starts.{room_for, accepted, factored, takes, fired, tells}
use Rattle.rules.specs.Tables.{wake_firings, reached, tasks_after_timers, ticked}
use Rattle.rules.specs.Fields.{task_field}
use Rattle.rules.specs.Effects.{Effect, cutting, quiet}
use Rattle.rules.specs.Refusals.{settled, turn}
use Rattle.rules.specs.Calls.{called}
use Rattle.cases.specs.Edges.{issued, Issuer, RousedKeepsPlace, CyclicStays, not_delay_of, AbortKeeps}
use Rattle.cases.proofs.Calls.{abort_is}
use Rattle.cases.proofs.Midnights.{tick_is}

-- ---- a rousing
in_place : (t : ℕ) (es : List Entry) → map (marked false) (marking false t es) ≡ map (marked false) es
in_place t [] = refl
in_place t (e ∷ es) =
    elim (of? t e) as (λ v. map (marked false) (cond v (marked false e ∷ es) (e ∷ marking false t es)) ≡ map (marked false) (e ∷ es)) [
      | true ↦ refl
      | false ↦ ap (λ (l : List Entry). marked false e ∷ l) (in_place t es)
    ]

pub roused : (s : Tasks) (t : ℕ) → RousedKeepsPlace s t
roused s t = record { place = in_place t s.roll.entries; held = refl }

-- ---- firings one after the other
joined_append : {X A : Type 0} (f : X → List A) (xs ys : List X) → flat_map f (xs ++ ys) ≡ flat_map f xs ++ flat_map f ys
joined_append f [] ys = refl
joined_append f (x ∷ xs) ys = ap (λ l. f x ++ l) (joined_append f xs ys) ∙ sym (append_assoc (f x) (flat_map f xs) (flat_map f ys))

told_append : (s : Tasks) (xs ys : List Firing) → all_told fired tells s (xs ++ ys) ≡ all_told fired tells s xs ++ all_told fired tells (all_fired fired s xs) ys
told_append s [] ys = refl
told_append s (x ∷ xs) ys = ap (λ (l : List Event). tells s x ∷ l) (told_append (fired s x) xs ys)

one_releases : (s : Tasks) (f : Firing) → (fired s f).released ≡ s.released
one_releases s (Start t x) = cond_both (takes s t) (factored (accepted s t) t x) s (λ (u : Tasks). u.released ≡ s.released) (λ _. refl) (λ _. refl)
one_releases s (Rouse t) = refl

none_releases : (s : Tasks) (fs : List Firing) → (all_fired fired s fs).released ≡ s.released
none_releases s [] = refl
none_releases s (f ∷ fs) = none_releases (fired s f) fs ∙ one_releases s f

misses : (s : Tasks) (t x : ℕ) → s.released t ≡ false → tells s (Start t x) ≡ event Missed t
misses s t x h = cond-false (takes s t) (event Accepted t) (event Missed t) (and_left (s.released t) (room_for s t) h)

-- ---- a cyclic timer that is due
waits_again : (t x n c : ℕ) → n ≤ 1 → 0 < c → timer_after (timer_place t x n c) ≡ Some (timer_place t x c c)
waits_again t x n c l p = rw (le-leb n 1 l, ne_eqb c 0 (λ z. (let k : ⊥ = omega arith in k))) refl

fires_now : (t x n c : ℕ) → n ≤ 1 → timer_fires (timer_place t x n c) ≡ Some (Start t x)
fires_now t x n c l = cond-true (leb n 1) (Some (Start t x)) None (le-leb n 1 l)

pub cyclic : (b : Setup) (s : State) (t x n c room : ℕ) (before after : List TimerPlace) → 100 ≤ room → s.tasks.released t ≡ false → n ≤ 1 → 0 < c
    → s.timers ≡ before ++ (timer_place t x n c ∷ after) → CyclicStays s t x c before after (called b s Tick room)
cyclic b s t x n c room before after l d p q h = subst (CyclicStays s t x c before after) (sym (tick_is b s room l)) (record {
  stays = ap (lefts timer_after) h ∙ joined_append (λ y. listed (timer_after y)) before (timer_place t x n c ∷ after)
      ∙ ap (λ o. lefts timer_after before ++ (listed o ++ lefts timer_after after)) (waits_again t x n c p q);
  missed = (
    all_told fired tells (fired u (Start t x)) (firings timer_fires after) ++ (wakes ++ last),
    ap (λ (l : List Event). (l ++ wakes) ++ last) told
        ∙ append_assoc (front ++ (event Missed t ∷ behind)) wakes last
        ∙ append_assoc front (event Missed t ∷ behind) (wakes ++ last),
  );
})
  where
    u : Tasks
    u = all_fired fired s.tasks (firings timer_fires before)

    front : List Event
    front = all_told fired tells s.tasks (firings timer_fires before)

    behind : List Event
    behind = all_told fired tells (fired u (Start t x)) (firings timer_fires after)

    wakes : List Event
    wakes = all_told fired tells (tasks_after_timers s) (wake_firings (reached s) s.wakes)

    last : List Event
    last = turn (running s.tasks) false (running (ticked s).tasks)

    told : all_told fired tells s.tasks (firings timer_fires s.timers) ≡ front ++ (event Missed t ∷ behind)
    told =
        ap (λ (ps : List TimerPlace). all_told fired tells s.tasks (firings timer_fires ps)) h
        ∙ ap (all_told fired tells s.tasks) (joined_append (λ y. listed (timer_fires y)) before (timer_place t x n c ∷ after))
        ∙ ap (λ o. all_told fired tells s.tasks (firings timer_fires before ++ (listed o ++ firings timer_fires after))) (fires_now t x n c p)
        ∙ told_append s.tasks (firings timer_fires before) (Start t x ∷ firings timer_fires after)
        ∙ ap (λ (e : Event). front ++ (e ∷ behind)) (misses u t x (ap (λ (f : ℕ → Bool). f t) (none_releases s.tasks (firings timer_fires before)) ∙ d))

-- ---- an abort
kept_twice : (q : TimerPlace → Bool) (ps : List TimerPlace) → filter q (filter q ps) ≡ filter q ps
kept_twice q ps = kept_by_both q q ps ∙ kept_by_same (λ p. q p && q p) q (λ p. elim (q p) as (λ v. (v && v) ≡ v) [ true ↦ refl | false ↦ refl ]) ps

pub abort_keeps : (b : Setup) (s : State) (r t room : ℕ) → Issuer s r room → task_field t ≡ true → AbortKeeps s t (issued b room s (Abort t))
abort_keeps b s r t room i f = subst (AbortKeeps s t) (sym (abort_is b s r t room i f))
    (cond_both (b.registered t) (cutting b s t r) (quiet s) (λ (e : Effect). AbortKeeps s t (settled s Done e))
    (λ _. record { timers = kept_twice (not_delay_of t) s.timers; wakes = refl })
    (λ _. record { timers = refl; wakes = refl }))
