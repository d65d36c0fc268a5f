-- A wake over any number of beats.
use Rattle.std.proofs.Common.{◌≡◌, ℕ, zero, suc, ◌+◌, ◌-◌, ◌*◌, ◌<◌, ◌≤◌, cond, eqb, ◌⊎◌, Some, None, sym, refl, ap, ◌∙◌, inl, inr, zero-mul, arith}
use Rattle.std.proofs.lemmas.Bool.{cases_eq, cases_lt, cases_order}
use Rattle.std.proofs.lemmas.Bool.Decides.{nat_tests}
use Rattle.table.specs.declared.firing.Firing.TheVariants.{Start}
use Rattle.table.specs.declared.wake.Phase.{Phase}
use Rattle.table.specs.declared.wake.Phase.TheVariants.{Waits, Counts, Spent}
use Rattle.table.specs.declared.wake.WakePlace.{WakePlace}
use Rattle.table.specs.Wakes.{wake_after, wake_fires, waits_for}
use Rattle.table.specs.Times.{of_left, wake_left, wake_fired, Exactly, FirstAt, NotYet, in_phase}
use Rattle.table.proofs.Counts.{Between, none_between, between_more, between_again, now_due}

module _ (day : ℕ → ℕ) (second : ℕ) where
  none_yet : NotYet day second 0
  none_yet m low high e = absurd (omega arith)

  not_yet_more : (n : ℕ) → NotYet day second n → (second ≡ day (suc n) → ⊥) → NotYet day second (suc n)
  not_yet_more n before ne m low high e =
      elim (cases_eq m (suc n)) [
        | inl at ↦ ne (sym e ∙ ap day at)
        | inr other ↦ before m low (omega arith) e
      ]

  first_now : (n : ℕ) → NotYet day second n → second ≡ day (suc n) → FirstAt day second (suc n)
  first_now n before e = (omega arith, sym e, λ m low high. before m low (omega arith))

  -- there is one first beat at most
  first_same : (m n : ℕ) → FirstAt day second m → FirstAt day second n → m ≡ n
  first_same m n a b =
      elim (cases_order m n) [
        | inl e ↦ e
        | inr apart ↦ elim apart [ inl lt ↦ absurd (b.2 m a.0 lt a.1) | inr gt ↦ absurd (a.2 n b.0 gt b.1) ]
      ]

  -- the first beat is not among those before it
  first_later : (m n : ℕ) → FirstAt day second m → NotYet day second n → n < m
  first_later m n a before = elim (cases_lt n m) [ inl lt ↦ lt | inr ge ↦ absurd (before m a.0 ge a.1) ]

module _ (day : ℕ → ℕ) (task factor second cycle : ℕ) where
  abbrev wake : Phase → WakePlace
  wake φ = in_phase (waits_for task factor second cycle) φ

  abbrev rung : Phase
  rung = cond (eqb cycle 0) Spent (Counts cycle)

  -- a beat of a wake that waits
  rings_now : (s : ℕ) → second ≡ s → wake_after s (wake Waits) ≡ Some (wake rung)
  rings_now s e = grind (arith, nat_tests)

  still_waits : (s : ℕ) → (second ≡ s → ⊥) → wake_after s (wake Waits) ≡ Some (wake Waits)
  still_waits s ne = grind (arith, nat_tests)

  starts_now : (s : ℕ) → second ≡ s → wake_fires s (wake Waits) ≡ Some (Start task factor)
  starts_now s e = grind (arith, nat_tests)

  starts_not : (s : ℕ) → (second ≡ s → ⊥) → wake_fires s (wake Waits) ≡ None
  starts_not s ne = grind (arith, nat_tests)

  -- a beat of a wake that counts
  counts_on : (s r : ℕ) → 2 ≤ r → wake_after s (wake (Counts r)) ≡ Some (wake (Counts (r - 1)))
  counts_on s r two = grind (arith, nat_tests)

  counts_not : (s r : ℕ) → 2 ≤ r → wake_fires s (wake (Counts r)) ≡ None
  counts_not s r two = grind (arith, nat_tests)

  -- after n beats it still waits
  record Waiting (n : ℕ) : Type 0 where
    before : NotYet day second n
    left : wake_left day (wake Waits) n ≡ Some (wake Waits)

  waiting_none : Waiting 0
  waiting_none = record { before = none_yet day second; left = refl }

  waiting_more : (n : ℕ) → Waiting n → (second ≡ day (suc n) → ⊥) → Waiting (suc n)
  waiting_more n w ne =
      record {
        before = not_yet_more day second n w.before ne;
        left = ap (of_left (wake_after (day (suc n)))) w.left ∙ still_waits (day (suc n)) ne;
      }

-- A wake without a cycle.
module _ (day : ℕ → ℕ) (task factor second : ℕ) where
  abbrev p : Phase → WakePlace
  p φ = in_phase (waits_for task factor second 0) φ

  record Rung (n : ℕ) : Type 0 where
    at : ℕ
    first : FirstAt day second at
    past : at ≤ n
    left : wake_left day (p Waits) n ≡ Some (p Spent)

  once_step : (n : ℕ) → Waiting day task factor second 0 n ⊎ Rung n → Waiting day task factor second 0 (suc n) ⊎ Rung (suc n)
  once_step n (inl w) =
      elim (cases_eq second (day (suc n))) [
        | inl e ↦ inr record {
          at = suc n;
          first = first_now day second n w.before e;
          past = omega arith;
          left = ap (of_left (wake_after (day (suc n)))) w.left ∙ rings_now day task factor second 0 (day (suc n)) e;
        }
        | inr ne ↦ inl (waiting_more day task factor second 0 n w ne)
      ]
  once_step n (inr r) =
      inr record { at = r.at; first = r.first; past = (let h = r.past in omega arith); left = ap (of_left (wake_after (day (suc n)))) r.left }

  once_stage : (n : ℕ) → Waiting day task factor second 0 n ⊎ Rung n
  once_stage zero = inl (waiting_none day task factor second 0)
  once_stage (suc n) = once_step n (once_stage n)

  fires_first : Exactly (wake_fired day (p Waits)) (Start task factor) (FirstAt day second)
  fires_first zero = (λ so. let low = so.0 in absurd (omega arith), λ _. refl)
  fires_first (suc n) =
      elim (once_stage n) [
        | inl w ↦ (let beat = ap (of_left (wake_fires (day (suc n)))) w.left in elim (cases_eq second (day (suc n))) [
          | inl e ↦ (λ _. beat ∙ starts_now day task factor second 0 (day (suc n)) e, λ no. absurd (no (first_now day second n w.before e)))
          | inr ne ↦ (λ so. absurd (ne (sym so.1)), λ _. beat ∙ starts_not day task factor second 0 (day (suc n)) ne)
        ])
        | inr r ↦ (
          λ so. let same = first_same day second (suc n) r.at so r.first in let h = r.past in absurd (omega arith),
          λ _. ap (of_left (wake_fires (day (suc n)))) r.left,
        )
      ]

  waits_until : (n : ℕ) → NotYet day second n → wake_left day (p Waits) n ≡ Some (p Waits)
  waits_until n before = elim (once_stage n) [ inl w ↦ w.left | inr r ↦ absurd (before r.at r.first.0 r.past r.first.1) ]

  spent_from : (m n : ℕ) → FirstAt day second m → m ≤ n → wake_left day (p Waits) n ≡ Some (p Spent)
  spent_from m n first past = elim (once_stage n) [ inl w ↦ absurd (w.before m first.0 past first.1) | inr r ↦ r.left ]

  pub wakes_once :
      Exactly (wake_fired day (p Waits)) (Start task factor) (FirstAt day second)
      × ((n : ℕ) → NotYet day second n → wake_left day (p Waits) n ≡ Some (p Waits))
      × ((m n : ℕ) → FirstAt day second m → m ≤ n → wake_left day (p Waits) n ≡ Some (p Spent))
  wakes_once = (fires_first, waits_until, spent_from)

-- A wake with a cycle.
module _ (day : ℕ → ℕ) (task factor second cycle : ℕ) (cycles : 1 ≤ cycle) where
  abbrev q : Phase → WakePlace
  q φ = in_phase (waits_for task factor second cycle) φ

  abbrev So : ℕ → Type 0
  So n = (m : ℕ) × (k : ℕ) × FirstAt day second m × (n ≡ m + k * cycle)

  record Counting (n : ℕ) : Type 0 where
    at : ℕ
    first : FirstAt day second at
    wait : ℕ
    left : wake_left day (q Waits) n ≡ Some (q (Counts wait))
    between : Between at cycle n wait

  counts : rung day task factor second cycle ≡ Counts cycle
  counts = grind (arith, nat_tests)

  between_rung : (n : ℕ) → Between n cycle n cycle
  between_rung n = record { count = 1; some = cycles; next = omega arith; soon = inl (omega arith) }

  on_step : (n : ℕ) → Waiting day task factor second cycle n ⊎ Counting n → Waiting day task factor second cycle (suc n) ⊎ Counting (suc n)
  on_step n (inl w) =
      elim (cases_eq second (day (suc n))) [
        | inl e ↦ inr record {
          at = suc n;
          first = first_now day second n w.before e;
          wait = cycle;
          left = ap (of_left (wake_after (day (suc n)))) w.left ∙ rings_now day task factor second cycle (day (suc n)) e ∙ ap (λ φ. Some (q φ)) counts;
          between = between_rung (suc n);
        }
        | inr ne ↦ inl (waiting_more day task factor second cycle n w ne)
      ]
  on_step n (inr r) =
      let beat = ap (of_left (wake_after (day (suc n)))) r.left in
      let some = r.between.some in
      elim (cases_eq r.wait 1) [
        | inl one ↦ inr record {
          at = r.at;
          first = r.first;
          wait = cycle;
          left = beat ∙ ap (λ k. wake_after (day (suc n)) (q (Counts k))) one ∙ ap (λ φ. Some (q φ)) counts;
          between = between_again r.between one cycles;
        }
        | inr more ↦ (let two : 2 ≤ r.wait = omega arith in inr record {
          at = r.at;
          first = r.first;
          wait = r.wait - 1;
          left = beat ∙ counts_on day task factor second cycle (day (suc n)) r.wait two;
          between = between_more r.between two;
        })
      ]

  on_stage : (n : ℕ) → Waiting day task factor second cycle n ⊎ Counting n
  on_stage zero = inl (waiting_none day task factor second cycle)
  on_stage (suc n) = on_step n (on_stage n)

  -- a wake that still waits after n beats does not fire at the next unless it has its second
  not_so : (n : ℕ) → NotYet day second n → (second ≡ day (suc n) → ⊥) → So (suc n) → ⊥
  not_so n before ne so =
      let later = first_later day second so.0 n so.2 before in
      let e = so.3 in
      let at : so.0 ≡ suc n = omega arith in
      ne (sym so.2.1 ∙ ap day at)

  -- one that counts does not fire before it has counted to the end
  not_before : (n : ℕ) (r : Counting n) → 2 ≤ r.wait → So (suc n) → ⊥
  not_before n r two so =
      let same = first_same day second so.0 r.at so.2 r.first in
      none_between r.between two (so.1, so.3 ∙ ap (λ m. m + so.1 * cycle) same)

  so_now : (n : ℕ) (r : Counting n) → r.wait ≡ 1 → So (suc n)
  so_now n r one = let due = now_due r.between one in (r.at, due.0, r.first, due.1)

  so_first : (n : ℕ) → FirstAt day second n → So n
  so_first n first = (n, 0, first, (let z = zero-mul cycle in omega arith))

  pub wakes_on : Exactly (wake_fired day (q Waits)) (Start task factor) So
  wakes_on zero = (λ so. let low = so.2.0 in let e = so.3 in absurd (omega arith), λ _. refl)
  wakes_on (suc n) =
      elim (on_stage n) [
        | inl w ↦ (let beat = ap (of_left (wake_fires (day (suc n)))) w.left in elim (cases_eq second (day (suc n))) [
          | inl e ↦ (λ _. beat ∙ starts_now day task factor second cycle (day (suc n)) e, λ no. absurd (no (so_first (suc n) (first_now day second n w.before e))))
          | inr ne ↦ (λ so. absurd (not_so n w.before ne so), λ _. beat ∙ starts_not day task factor second cycle (day (suc n)) ne)
        ])
        | inr r ↦ (let beat = ap (of_left (wake_fires (day (suc n)))) r.left in let some = r.between.some in elim (cases_eq r.wait 1) [
          | inl one ↦ (λ _. beat ∙ ap (λ k. wake_fires (day (suc n)) (q (Counts k))) one, λ no. absurd (no (so_now n r one)))
          | inr more ↦ (let two : 2 ≤ r.wait = omega arith in (λ so. absurd (not_before n r two so), λ _. beat ∙ counts_not day task factor second cycle (day (suc n)) r.wait two))
        ])
      ]
