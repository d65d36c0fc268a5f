-- What firings make of the tasks, and what they tell: it keeps what ties the tasks to the events.
use Rattle.std.proofs.Common.{◌≡◌, ℕ, zero, suc, ◌+◌, ◌-◌, ◌<◌, Bool, true, false, cond, ◌&&◌, ◌||◌, eqb, List, [], ◌∷◌, ◌++◌, Some, None, Option, sym, refl, ap, ◌∙◌, subst, append_assoc, arith}
use Rattle.std.proofs.lemmas.Bool.{cond_both, and_parts, ltb-true, true≢false}
use Rattle.sheet.specs.declared.event.Event.{Event}
use Rattle.sheet.specs.declared.event.Kind.TheVariants.{Accepted, Missed, Wakened}
use Rattle.sheet.specs.Events.{event}
use Rattle.roll.specs.Tables.{put}
use Rattle.roll.specs.Entries.{count_of, marking}
use Rattle.table.specs.declared.firing.Firing.{Firing}
use Rattle.table.specs.declared.firing.Firing.TheVariants.{Start, Rouse}
use Rattle.table.specs.declared.timer.TimerPlace.{TimerPlace}
use Rattle.table.specs.declared.wake.WakePlace.{WakePlace}
use Rattle.table.specs.Rows.{listed, lefts, firings, all_fired, all_told}
use Rattle.table.specs.Timers.{due, timer_after, timer_fires}
use Rattle.table.specs.Wakes.{rings, wake_fires}
use Rattle.table.proofs.Beats.{folded_append}
use Rattle.rules.specs.State.{Tasks}
use Rattle.rules.specs.Starts.{rolled, room_for, accepted, factored, takes, fired, tells}
use Rattle.rules.specs.Tables.{wake_firings}
use Rattle.laws.specs.Laws.{one}
use Rattle.laws.proofs.Delays.{delay_of, delays_of, delays_append}
use Rattle.laws.proofs.Kept.{Kept, kept_delays, kept_same, kept_told, kept_beside, kept_accepted, kept_roused}

-- ---- one firing
released_pos : (s : Tasks) (t : ℕ) → s.released 0 ≡ false → s.released t ≡ true → 0 < t
released_pos s zero a b = absurd (true≢false (sym b ∙ a))
released_pos s (suc t) a b = omega arith

kept_start : (m : ℕ → ℕ) (es : List Event) (s : Tasks) (t x : ℕ) → Kept m es s → Kept m (es ++ (tells s (Start t x) ∷ [])) (fired s (Start t x))
kept_start m es s t x k =
    elim (takes s t) as (λ v. takes s t ≡ v → Kept m (es ++ (cond v (event Accepted t) (event Missed t) ∷ [])) (cond v (factored (accepted s t) t x) s)) [
      | true ↦ λ q.
          let p = and_parts (s.released t) (room_for s t) q in
          kept_beside m (es ++ (event Accepted t ∷ [])) (accepted s t) s.released (put s.factors t (put (s.factors t) x true)) s.roll.held k.none
          (kept_accepted m es s t (ltb-true (count_of t s.roll.entries) 2 p.1) (released_pos s t k.none p.0) k)
      | false ↦ λ _. kept_told m es s (event Missed t) refl refl refl k
    ] refl

-- ---- firings, one list after another
told_append : (s : Tasks) (fs gs : List Firing) → all_told fired tells s (fs ++ gs) ≡ all_told fired tells s fs ++ all_told fired tells (all_fired fired s fs) gs
told_append s [] gs = refl
told_append s (f ∷ fs) gs = ap (λ (l : List Event). tells s f ∷ l) (told_append (fired s f) fs gs)

-- what holds after fs and then gs holds after both
kept_chain : (m : ℕ → ℕ) (es : List Event) (s : Tasks) (fs gs : List Firing)
    → Kept m ((es ++ all_told fired tells s fs) ++ all_told fired tells (all_fired fired s fs) gs) (all_fired fired (all_fired fired s fs) gs)
    → Kept m (es ++ all_told fired tells s (fs ++ gs)) (all_fired fired s (fs ++ gs))
kept_chain m es s fs gs k =
    subst (λ l. Kept m (es ++ l) (all_fired fired s (fs ++ gs))) (sym (told_append s fs gs))
    (subst (λ u. Kept m (es ++ (all_told fired tells s fs ++ all_told fired tells (all_fired fired s fs) gs)) u) (sym (folded_append fired s fs gs))
    (subst (λ l. Kept m l (all_fired fired (all_fired fired s fs) gs)) (append_assoc es (all_told fired tells s fs) (all_told fired tells (all_fired fired s fs) gs)) k))

-- ---- a beat of the timers: a delay that goes rouses its task
kept_timer : (p : TimerPlace) (m : ℕ → ℕ) (es : List Event) (s : Tasks) → Kept (λ t. m t + one (delay_of t p)) es s
    → Kept (λ t. m t + delays_of t (listed (timer_after p))) (es ++ all_told fired tells s (listed (timer_fires p))) (all_fired fired s (listed (timer_fires p)))
kept_timer p m es s k = go (due p) p.delay (eqb p.cycle 0) k
  where
    at : Bool → ℕ → TimerPlace
    at L n = record { delay = L; task = p.task; factor = p.factor; wait = n; cycle = p.cycle }

    go : (D L Z : Bool) → Kept (λ t. m t + one (L && eqb p.task t)) es s
        → Kept (λ t. m t + delays_of t (listed (cond D (cond (L || Z) None (Some (at L p.cycle))) (Some (at L (p.wait - 1))))))
        (es ++ all_told fired tells s (listed (cond D (Some (cond L (Rouse p.task) (Start p.task p.factor))) None)))
        (all_fired fired s (listed (cond D (Some (cond L (Rouse p.task) (Start p.task p.factor))) None)))
    go true true Z k = kept_told (λ t. m t + 0) es (rolled s (marking false p.task s.roll.entries)) (event Wakened p.task) refl refl refl
        (kept_roused (λ t. m t + 0) es s p.task (kept_delays (λ t. m t + one (eqb p.task t)) (λ t. m t + 0 + one (eqb p.task t)) es s (λ t. omega arith) k))
    go true false true k = kept_start (λ t. m t + 0) es s p.task p.factor k
    go true false false k = kept_delays (λ t. m t + 0) (λ t. m t + (0 + 0)) (es ++ (tells s (Start p.task p.factor) ∷ [])) (fired s (Start p.task p.factor)) (λ t. omega arith) (kept_start (λ t. m t + 0) es s p.task p.factor k)
    go false L Z k = kept_same (λ t. m t + (one (L && eqb p.task t) + 0)) es s (kept_delays (λ t. m t + one (L && eqb p.task t)) (λ t. m t + (one (L && eqb p.task t) + 0)) es s (λ t. omega arith) k)

pub kept_timers : (ps : List TimerPlace) (m : ℕ → ℕ) (es : List Event) (s : Tasks) → Kept (λ t. m t + delays_of t ps) es s
    → Kept (λ t. m t + delays_of t (lefts timer_after ps)) (es ++ all_told fired tells s (firings timer_fires ps)) (all_fired fired s (firings timer_fires ps))
kept_timers [] m es s k = kept_same (λ t. m t + 0) es s k
kept_timers (p ∷ ps) m es s k =
    let fs = listed (timer_fires p) in
    let gs = firings timer_fires ps in
    let l = listed (timer_after p) in
    let es' = es ++ all_told fired tells s fs in
    let s' = all_fired fired s fs in
    let a : Kept (λ t. m t + delays_of t ps + delays_of t l) es' s' =
    kept_timer p (λ t. m t + delays_of t ps) es s (kept_delays (λ t. m t + (one (delay_of t p) + delays_of t ps)) (λ t. m t + delays_of t ps + one (delay_of t p)) es s (λ t. omega arith) k) in
    let b = kept_timers ps (λ t. m t + delays_of t l) es' s' (kept_delays (λ t. m t + delays_of t ps + delays_of t l) (λ t. m t + delays_of t l + delays_of t ps) es' s' (λ t. omega arith) a) in
    kept_chain (λ t. m t + delays_of t (l ++ lefts timer_after ps)) es s fs gs
    (kept_delays (λ t. m t + delays_of t l + delays_of t (lefts timer_after ps)) (λ t. m t + delays_of t (l ++ lefts timer_after ps)) (es' ++ all_told fired tells s' gs) (all_fired fired s' gs)
    (λ t. (let d = delays_append t l (lefts timer_after ps) in omega arith)) b)

-- ---- a beat of the wakes
kept_wake : (second : ℕ) (p : WakePlace) (m : ℕ → ℕ) (es : List Event) (s : Tasks) → Kept m es s
    → Kept m (es ++ all_told fired tells s (listed (wake_fires second p))) (all_fired fired s (listed (wake_fires second p)))
kept_wake second p m es s k =
    elim (rings second p) as (λ v. Kept m (es ++ all_told fired tells s (listed (cond v (Some (Start p.task p.factor)) None))) (all_fired fired s (listed (cond v (Some (Start p.task p.factor)) None)))) [
      | true ↦ kept_start m es s p.task p.factor k
      | false ↦ kept_same m es s k
    ]

kept_rings : (second : ℕ) (ps : List WakePlace) (m : ℕ → ℕ) (es : List Event) (s : Tasks) → Kept m es s
    → Kept m (es ++ all_told fired tells s (firings (wake_fires second) ps)) (all_fired fired s (firings (wake_fires second) ps))
kept_rings second [] m es s k = kept_same m es s k
kept_rings second (p ∷ ps) m es s k =
    let fs = listed (wake_fires second p) in
    kept_chain m es s fs (firings (wake_fires second) ps)
    (kept_rings second ps m (es ++ all_told fired tells s fs) (all_fired fired s fs) (kept_wake second p m es s k))

pub kept_wakes : (at : Option ℕ) (ps : List WakePlace) (m : ℕ → ℕ) (es : List Event) (s : Tasks) → Kept m es s
    → Kept m (es ++ all_told fired tells s (wake_firings at ps)) (all_fired fired s (wake_firings at ps))
kept_wakes None ps m es s k = kept_same m es s k
kept_wakes (Some second) ps m es s k = kept_rings second ps m es s k

-- ---- firings leave levels and holds
pub same_levels : (s : Tasks) (fs : List Firing) → (all_fired fired s fs).level ≡ s.level
same_levels s [] = refl
same_levels s (f ∷ fs) = same_levels (fired s f) fs ∙ one_level s f
  where
    one_level : (s : Tasks) (f : Firing) → (fired s f).level ≡ s.level
    one_level s (Start t x) = cond_both (takes s t) (factored (accepted s t) t x) s (λ (u : Tasks). u.level ≡ s.level) (λ _. refl) (λ _. refl)
    one_level s (Rouse t) = refl

pub same_holds : (s : Tasks) (fs : List Firing) → (all_fired fired s fs).roll.held ≡ s.roll.held
same_holds s [] = refl
same_holds s (f ∷ fs) = same_holds (fired s f) fs ∙ one_hold s f
  where
    one_hold : (s : Tasks) (f : Firing) → (fired s f).roll.held ≡ s.roll.held
    one_hold s (Start t x) = cond_both (takes s t) (factored (accepted s t) t x) s (λ (u : Tasks). u.roll.held ≡ s.roll.held) (λ _. refl) (λ _. refl)
    one_hold s (Rouse t) = refl
