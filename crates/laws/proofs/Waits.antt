-- Delays, timers, ctime and the tick, in the words of the laws.
use Rattle.std.proofs.Common.{◌≡◌, ℕ, suc, ◌+◌, ◌-◌, ◌≤◌, Bool, true, false, cond, not, ◌&&◌, ◌||◌, eqb, ltb, ◌⊎◌, List, [], ◌∷◌, ◌++◌, length, Some, None, filter, Option, sym, refl, ap, ◌∙◌, subst, ap₂, inl, inr, append_assoc, arith, length-append}
use Rattle.std.specs.List.{flat_map}
use Rattle.std.proofs.lemmas.Bool.{cases_Bool, cond_both, eqb-true, eqb-false, eq-eqb, ne_eqb, leb-false, or_right, not-true, and_parts}
use Rattle.std.proofs.lemmas.List.{append-nil}
use Rattle.sheet.specs.declared.event.Event.{Event}
use Rattle.roll.specs.declared.entry.Entry.{Entry}
use Rattle.roll.specs.Firsts.{fronts, startable, best, task_of}
use Rattle.table.specs.declared.timer.TimerPlace.{TimerPlace}
use Rattle.table.specs.declared.selection.Selection.TheVariants.{Set}
use Rattle.table.specs.Rows.{listed, lefts, firings, all_fired, all_told}
use Rattle.table.specs.Timers.{due, with_wait, timer_after, timer_fires, timer_selected, delay_place, timer_place}
use Rattle.rules.specs.declared.answer.Code.TheVariants.{Done}
use Rattle.rules.specs.declared.call.Call.TheVariants.{Macro as Issues, Tick}
use Rattle.rules.specs.declared.call.Macro.TheVariants.{Delay, Timer, Ctime}
use Rattle.rules.specs.State.{Setup, Tasks, State, numbered, running as first}
use Rattle.rules.specs.Starts.{slept, fired, tells}
use Rattle.rules.specs.Tables.{timers_full, timers_without, wake_firings, reached, tasks_after_timers, ticked, tick_events}
use Rattle.rules.specs.Effects.{in_timers, quiet, telling, sleeping}
use Rattle.laws.specs.Laws.{one}
use Rattle.laws.proofs.Marks.{marks_of}
use Rattle.laws.proofs.Delays.{delays_of, delays_append}
use Rattle.laws.proofs.First.{Holds, best_is, all_kept, fronts_lead, Oldest}
use Rattle.laws.proofs.Timers.{after, beaten}
use Rattle.laws.proofs.Kept.{Kept, kept_delays, kept_same, kept_slept}
use Rattle.laws.proofs.Firings.{kept_timers, kept_wakes, same_levels, same_holds}
use Rattle.laws.proofs.Turns.{without_append, firings_tell}
use Rattle.laws.proofs.Steps.{Fit, Does, heard, joined_ext, joined_kept, after_beat, unchanged}

-- ---- the issuer's current start is awake
pub issuer : (s : Tasks) → (first s ≡ 0 → ⊥) → (bs : List Bool) × (marks_of (first s) s.roll.entries ≡ false ∷ bs)
issuer s h = go (best (filter (startable s.roll.held) (fronts s.roll.entries)))
    (best_is (λ (e : Entry). (e.asleep ≡ false) × Oldest s.roll.entries e) (filter (startable s.roll.held) (fronts s.roll.entries))
    (all_kept (startable s.roll.held) (Oldest s.roll.entries) (λ (e : Entry). (e.asleep ≡ false) × Oldest s.roll.entries e) (fronts s.roll.entries)
    (λ e p l. (not-true e.asleep (and_parts (not e.asleep) (not (s.roll.held e.task)) p).0, l)) (fronts_lead s.roll.entries))) h
  where
    go : (o : Option Entry) → Holds (λ (e : Entry). (e.asleep ≡ false) × Oldest s.roll.entries e) o → (numbered (task_of o) ≡ 0 → ⊥) → (bs : List Bool) × (marks_of (numbered (task_of o)) s.roll.entries ≡ false ∷ bs)
    go None p n = absurd (n refl)
    go (Some e) p n = (p.1.0, p.1.1 ∙ ap (λ (x : Bool). x ∷ p.1.0) p.0)

-- ---- one more entry of the table
one_more : (s : State) (p : TimerPlace) → timers_full s ≡ false → length (s.timers ++ (p ∷ [])) ≤ 64
one_more s p nf = let a = length-append s.timers (p ∷ []) in let c = leb-false 64 (length s.timers) nf in omega arith

pub does_delay : (b : Setup) (s : State) (n : ℕ) (es : List Event) → Fit b s es → (first s.tasks ≡ 0 → ⊥) → ltb 0 n ≡ true → timers_full s ≡ false → Does b s (Issues (Delay n)) Done es (sleeping s (first s.tasks) n)
does_delay b s n es f i pos nf =
    let r = first s.tasks in
    let new = delay_place r n in
    let j = issuer s.tasks i in
    record {
      leaves = record {
        kept = kept_same (λ t. delays_of t (s.timers ++ (new ∷ []))) es (slept s.tasks r)
            (kept_delays (λ t. delays_of t s.timers + one (eqb r t)) (λ t. delays_of t (s.timers ++ (new ∷ []))) es (slept s.tasks r)
            (λ t. (let a = delays_append t s.timers (new ∷ []) in omega arith))
            (kept_slept (λ t. delays_of t s.timers) es s.tasks r j.0 j.1 f.kept));
        levels = λ t. refl;
        holds = λ t. refl;
        timers = ap₂ (λ (a c : List TimerPlace). a ++ c) (sym (unchanged (heard (Issues (Delay n)) Done []) s.timers refl (λ t. refl) (λ t. refl))) (rw pos refl);
        few = one_more s new nf;
        untouched = f.untouched;
      };
      runner = refl;
    }

pub does_timer : (b : Setup) (s : State) (t n c x : ℕ) (es : List Event) → Fit b s es → ltb 0 n ≡ true → timers_full s ≡ false
    → Does b s (Issues (Timer t n c x)) Done es (quiet (in_timers s (s.timers ++ (timer_place t x n c ∷ []))))
does_timer b s t n c x es f pos nf =
    let new = timer_place t x n c in
    record {
      leaves = record {
        kept = kept_same (λ t. delays_of t (s.timers ++ (new ∷ []))) es s.tasks
            (kept_delays (λ t. delays_of t s.timers) (λ t. delays_of t (s.timers ++ (new ∷ []))) es s.tasks (λ t. (let a = delays_append t s.timers (new ∷ []) in omega arith)) f.kept);
        levels = λ t. refl;
        holds = λ t. refl;
        timers = ap₂ (λ (a c : List TimerPlace). a ++ c) (sym (unchanged (heard (Issues (Timer t n c x)) Done []) s.timers refl (λ t. refl) (λ t. refl))) (rw (or_right (ltb 0 c) (ltb 0 n) pos) refl);
        few = one_more s new nf;
        untouched = f.untouched;
      };
      runner = refl;
    }

-- ---- a ctime takes the timers that match, and no delay
delays_unmatched : (u t x : ℕ) (ps : List TimerPlace) → delays_of u (filter (λ p. not (timer_selected (Set t x) p)) ps) ≡ delays_of u ps
delays_unmatched u t x [] = refl
delays_unmatched u t x (p ∷ ps) = go p.delay (eqb p.task t && eqb p.factor x) (delays_unmatched u t x ps)
  where
    go : (L M : Bool) → delays_of u (filter (λ p. not (timer_selected (Set t x) p)) ps) ≡ delays_of u ps
        → delays_of u (cond (not (not L && M)) (record { delay = L; task = p.task; factor = p.factor; wait = p.wait; cycle = p.cycle } ∷ filter (λ p. not (timer_selected (Set t x) p)) ps) (filter (λ p. not (timer_selected (Set t x) p)) ps)) ≡ one (L && eqb p.task u) + delays_of u ps
    go true M i = ap (λ k. one (eqb p.task u) + k) i
    go false true i = omega arith
    go false false i = omega arith

eqb_swap : (a b : ℕ) → eqb a b ≡ eqb b a
eqb_swap a b = go (cases_Bool (eqb a b))
  where
    go : (eqb a b ≡ true) ⊎ (eqb a b ≡ false) → eqb a b ≡ eqb b a
    go (inl y) = y ∙ sym (eq-eqb b a (sym (eqb-true a b y)))
    go (inr y) = y ∙ sym (ne_eqb b a (λ q. eqb-false a b y (sym q)))

drop_and_false : (L M : Bool) (l : List TimerPlace) → cond (L && false) [] (cond (not L && M) [] l) ≡ cond (not L && M) [] l
drop_and_false true M l = refl
drop_and_false false M l = refl

pub length_kept : (q : TimerPlace → Bool) (ps : List TimerPlace) → length (filter q ps) ≤ length ps
length_kept q [] = omega arith
length_kept q (p ∷ ps) = let i = length_kept q ps in cond_both (q p) (p ∷ filter q ps) (filter q ps) (λ (l : List TimerPlace). length l ≤ suc (length ps)) (λ _. omega arith) (λ _. omega arith)

pub does_ctime : (b : Setup) (s : State) (t x : ℕ) (es : List Event) → Fit b s es → Does b s (Issues (Ctime t x)) Done es (quiet (in_timers s (timers_without s (Set t x))))
does_ctime b s t x es f =
    let e = heard (Issues (Ctime t x)) Done [] in
    record {
      leaves = record {
        kept = kept_same (λ u. delays_of u (timers_without s (Set t x))) es s.tasks
            (kept_delays (λ u. delays_of u s.timers) (λ u. delays_of u (timers_without s (Set t x))) es s.tasks (λ u. sym (delays_unmatched u t x s.timers)) f.kept);
        levels = λ t. refl;
        holds = λ t. refl;
        timers = sym (append-nil (flat_map (after e) s.timers)
            ∙ joined_ext (after e) (λ p. cond (timer_selected (Set t x) p) [] (p ∷ [])) s.timers
            (λ p. drop_and_false p.delay (eqb t p.task && eqb x p.factor) (p ∷ []) ∙ ap₂ (λ (a c : Bool). cond (not p.delay && (a && c)) [] (p ∷ [])) (eqb_swap t p.task) (eqb_swap x p.factor))
            ∙ joined_kept (timer_selected (Set t x)) s.timers);
        few = (let a = length_kept (λ p. not (timer_selected (Set t x) p)) s.timers in let c = f.few in omega arith);
        untouched = f.untouched;
      };
      runner = refl;
    }

-- ---- the tick
length_beaten : (ps : List TimerPlace) → length (lefts timer_after ps) ≤ length ps
length_beaten [] = omega arith
length_beaten (p ∷ ps) =
    let i = length_beaten ps in
    let a = length-append (beaten p) (lefts timer_after ps) in
    let z = at_most (due p) (p.delay || eqb p.cycle 0) in
    omega arith
  where
    at_most : (D Z : Bool) → length (listed (cond D (cond Z None (Some (with_wait p p.cycle))) (Some (with_wait p (p.wait - 1))))) ≤ 1
    at_most true true = omega arith
    at_most true false = omega arith
    at_most false Z = omega arith

pub does_tick : (b : Setup) (s : State) (es : List Event) → Fit b s es → Does b s Tick Done es (telling (ticked s) (tick_events s))
does_tick b s es f =
    let e = heard Tick Done (tick_events s) in
    let fs = firings timer_fires s.timers in
    let gs = wake_firings (reached s) s.wakes in
    let told₁ = all_told fired tells s.tasks fs in
    let told₂ = all_told fired tells (tasks_after_timers s) gs in
    let m : ℕ → ℕ = λ t. 0 + delays_of t (lefts timer_after s.timers) in
    let k : Kept m (es ++ told₁) (tasks_after_timers s) = kept_timers s.timers (λ t. 0) es s.tasks (kept_delays (λ t. delays_of t s.timers) (λ t. 0 + delays_of t s.timers) es s.tasks (λ t. omega arith) f.kept) in
    let j : Kept m (es ++ (told₁ ++ told₂)) (all_fired fired (tasks_after_timers s) gs) =
    subst (λ l. Kept m l (all_fired fired (tasks_after_timers s) gs)) (append_assoc es told₁ told₂) (kept_wakes (reached s) s.wakes m (es ++ told₁) (tasks_after_timers s) k) in
    let n = without_append told₁ told₂ (firings_tell s.tasks fs) (firings_tell (tasks_after_timers s) gs) in
    let lv = same_levels (tasks_after_timers s) gs ∙ same_levels s.tasks fs in
    let hd = same_holds (tasks_after_timers s) gs ∙ same_holds s.tasks fs in
    record {
      leaves = record {
        kept = kept_delays m (λ t. delays_of t (lefts timer_after s.timers)) (es ++ tick_events s) (ticked s).tasks (λ t. omega arith) j;
        levels = λ t. ap (λ (g : ℕ → ℕ). g t) lv;
        holds = λ t. ap (λ (g : ℕ → Bool). g t) hd;
        timers = sym (append-nil (flat_map (after e) s.timers) ∙ joined_ext (after e) beaten s.timers (λ p. after_beat e p (λ t. refl) n.1));
        few = (let a = length_beaten s.timers in let c = f.few in omega arith);
        untouched = λ t q. (ap (λ (g : ℕ → ℕ). g t) lv ∙ (f.untouched t q).0, ap (λ (g : ℕ → Bool). g t) hd ∙ (f.untouched t q).1);
      };
      runner = n.0 (first s.tasks);
    }
