-- A wake at second 0, set at clock 0, fires a day later.
use Rattle.std.proofs.Common.{◌≡◌, ℕ, zero, suc, ◌+◌, ◌*◌, ◌/◌, ◌%◌, ◌<◌, ◌≤◌, true, eqb, List, [], ◌∷◌, Some, None, Option, sym, refl, ap, ◌∙◌, ap₂, mod-eq_of_lt, arith, lit<}
use native.Mathlib.Nat.{div-add-mod}
use Rattle.std.proofs.lemmas.Bool.{cond_both, ne_eqb, eqb-true, le-ltb}
use Rattle.table.specs.declared.firing.Firing.TheVariants.{Start}
use Rattle.table.specs.declared.wake.WakePlace.{WakePlace}
use Rattle.table.specs.Wakes.{waits_for}
use Rattle.table.specs.Clocks.{next_milli, full_second}
use Rattle.rules.specs.declared.answer.Code.TheVariants.{Done}
use Rattle.rules.specs.declared.call.Call.TheVariants.{Tick}
use Rattle.rules.specs.State.{Setup, State}
use Rattle.rules.specs.Tables.{wake_firings, wakes_after, reached, ticked, tick_events}
use Rattle.rules.specs.Effects.{telling}
use Rattle.rules.specs.Refusals.{Step, settled, short}
use Rattle.rules.specs.Calls.{called}
use Rattle.cases.specs.Edges.{after_ticks, rung, Midnight}
use Rattle.cases.proofs.Walks.{passes}

none_yet : (s : State) → after_ticks zero s ≡ s
unfolding after_ticks
none_yet s = refl

one_more : (n : ℕ) (s : State) → after_ticks (suc n) s ≡ ticked (after_ticks n s)
unfolding after_ticks
one_more n s = refl

-- ---- the clock
next_below : (n : ℕ) → n < 86399999 → next_milli n ≡ suc n
next_below n l = mod-eq_of_lt {n = n + 1} {m = 86400000} (omega arith) ∙ (let z : n + 1 ≡ suc n = omega arith in z)

clock_at : (n : ℕ) (s : State) → s.clock ≡ 0 → n < 86400000 → (after_ticks n s).clock ≡ n
clock_at zero s z l = ap (λ (u : State). u.clock) (none_yet s) ∙ z
clock_at (suc n) s z l = ap (λ (u : State). u.clock) (one_more n s) ∙ ap next_milli (clock_at n s z (omega arith)) ∙ next_below n (omega arith)

-- ---- a full second within the day is not second 0
later : (k : ℕ) → 0 < k → eqb (k % 1000) 0 ≡ true → 0 ≡ k / 1000 → ⊥
later k p h q =
    let a = eqb-true (k % 1000) 0 h in
    let d = div-add-mod k 1000 in
    let e : 1000 * (k / 1000) ≡ 0 = ap (λ m. 1000 * m) (sym q) in
    omega arith

module _ (t x c : ℕ) where
  still_waits : (k : ℕ) → 0 < k → wakes_after (full_second k) (waits_for t x 0 c ∷ []) ≡ waits_for t x 0 c ∷ []
  still_waits k p = cond_both (eqb (k % 1000) 0) (Some (k / 1000)) None (λ (o : Option ℕ). wakes_after o (waits_for t x 0 c ∷ []) ≡ waits_for t x 0 c ∷ [])
      (λ h. rw (ne_eqb 0 (k / 1000) (later k p h)) refl) (λ _. refl)

  no_ring : (k : ℕ) → 0 < k → wake_firings (full_second k) (waits_for t x 0 c ∷ []) ≡ []
  no_ring k p = cond_both (eqb (k % 1000) 0) (Some (k / 1000)) None (λ (o : Option ℕ). wake_firings o (waits_for t x 0 c ∷ []) ≡ [])
      (λ h. rw (ne_eqb 0 (k / 1000) (later k p h)) refl) (λ _. refl)

  module _ (s : State) (z : s.clock ≡ 0) (w : s.wakes ≡ waits_for t x 0 c ∷ []) where
    reached_at : (n : ℕ) → n < 86399999 → reached (after_ticks n s) ≡ full_second (suc n)
    reached_at n l = ap (λ m. full_second (next_milli m)) (clock_at n s z (omega arith)) ∙ ap full_second (next_below n l)

    wakes_at : (n : ℕ) → n < 86400000 → (after_ticks n s).wakes ≡ waits_for t x 0 c ∷ []
    wakes_at zero l = ap (λ (u : State). u.wakes) (none_yet s) ∙ w
    wakes_at (suc n) l =
        ap (λ (u : State). u.wakes) (one_more n s)
        ∙ ap₂ (λ (o : Option ℕ) (ws : List WakePlace). wakes_after o ws) (reached_at n (omega arith)) (wakes_at n (omega arith))
        ∙ still_waits (suc n) (omega arith)

    before : (n : ℕ) → n < 86399999 → rung (after_ticks n s) ≡ []
    before n l = ap₂ (λ (o : Option ℕ) (ws : List WakePlace). wake_firings o ws) (reached_at n l) (wakes_at n (omega arith)) ∙ no_ring (suc n) (omega arith)

    fires : rung (after_ticks 86399999 s) ≡ Start t x ∷ []
    fires = ap₂ (λ (o : Option ℕ) (ws : List WakePlace). wake_firings o ws) (ap (λ m. full_second (next_milli m)) (clock_at 86399999 s z (lit< tt))) (wakes_at 86399999 (lit< tt))

pub midnight : (s : State) (t x c : ℕ) → s.clock ≡ 0 → s.wakes ≡ waits_for t x 0 c ∷ [] → Midnight s t x
midnight s t x c z w = record { before = λ n l. before t x c s z w n (omega arith); fires = fires t x c s z w }

pub tick_is : (b : Setup) (s : State) (room : ℕ) → 100 ≤ room → called b s Tick room ≡ settled s Done (telling (ticked s) (tick_events s))
tick_is b s room l = passes (short b s room) [] (settled s Done (telling (ticked s) (tick_events s))) (le-ltb room 100 l)

pub ticks : (b : Setup) (s : State) (room : ℕ) → 100 ≤ room → (called b s Tick room).state ≡ ticked s
ticks b s room l = ap (λ (k : Step). k.state) (tick_is b s room l)
