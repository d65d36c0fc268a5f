-- An entry of the timer table over any number of beats.
use Rattle.std.proofs.Common.{◌≡◌, ℕ, zero, suc, ◌+◌, ◌-◌, ◌*◌, ◌<◌, ◌≤◌, ◌⊎◌, Some, None, refl, ap, ◌∙◌, subst, inl, inr, mul-le-mul_right, suc-mul, zero-mul, arith}
use Rattle.std.proofs.lemmas.Bool.{cases_eq, cases_lt}
use Rattle.std.proofs.lemmas.Bool.Decides.{nat_tests}
use Rattle.table.specs.declared.firing.Firing.{Firing}
use Rattle.table.specs.declared.firing.Firing.TheVariants.{Start}
use Rattle.table.specs.declared.timer.TimerPlace.{TimerPlace}
use Rattle.table.specs.Timers.{timer_after, timer_fires, timer_place, with_wait}
use Rattle.table.specs.Times.{of_left, timer_left, timer_fired, Exactly, Once}

-- one beat of an entry that has r beats to wait
pub goes_on : (p : TimerPlace) (r : ℕ) → 2 ≤ r → timer_after (with_wait p r) ≡ Some (with_wait p (r - 1))
goes_on p r h = grind (arith, nat_tests)

pub stays_still : (p : TimerPlace) (r : ℕ) → 2 ≤ r → timer_fires (with_wait p r) ≡ None
stays_still p r h = grind (arith, nat_tests)

-- how many multiples lie below another
pub next_multiple : (j k c : ℕ) → j < k → j * c + c ≤ k * c
next_multiple j k c h = subst (λ x. x ≤ k * c) (suc-mul j c) (mul-le-mul_right c (omega arith))

-- The beat after the n-th is not earlier than the last that fires, and the next that fires is r beats after the n-th.
pub record Between (first cycle n r : ℕ) : Type 0 where
  pub count : ℕ
  pub some : 1 ≤ r
  pub next : n + r ≡ first + count * cycle
  pub soon : (r ≤ cycle) ⊎ (count ≡ 0)

-- the beats from one that fires to the next that does, exclusive, do not fire
pub none_between : {first cycle n r : ℕ} → Between first cycle n r → 2 ≤ r → ((k : ℕ) × (suc n ≡ first + k * cycle)) → ⊥
none_between {first} {cycle} {n} {r} b two (k, e) =
    elim (cases_lt k b.count) [
      | inl lt ↦ (let m = next_multiple k b.count cycle lt in let x = b.next in
          elim b.soon [ inl le ↦ omega arith | inr z ↦ omega arith ])
      | inr ge ↦ (let m : b.count * cycle ≤ k * cycle = mul-le-mul_right cycle ge in let x = b.next in omega arith)
    ]

pub between_first : (first cycle : ℕ) → 1 ≤ first → Between first cycle 0 first
between_first first cycle h = record { count = 0; some = h; next = (let z = zero-mul cycle in omega arith); soon = inr refl }

pub between_more : {first cycle n r : ℕ} → Between first cycle n r → 2 ≤ r → Between first cycle (suc n) (r - 1)
between_more {first} {cycle} {n} {r} b two =
    record {
      count = b.count;
      some = omega arith;
      next = (let x = b.next in omega arith);
      soon = elim b.soon [ inl le ↦ inl (omega arith) | inr z ↦ inr z ];
    }

pub between_again : {first cycle n r : ℕ} → Between first cycle n r → r ≡ 1 → 1 ≤ cycle → Between first cycle (suc n) cycle
between_again {first} {cycle} {n} {r} b one h =
    record {
      count = suc b.count;
      some = h;
      next = (let x = b.next in let s = suc-mul b.count cycle in omega arith);
      soon = inl (omega arith);
    }

pub now_due : {first cycle n r : ℕ} → Between first cycle n r → r ≡ 1 → (k : ℕ) × (suc n ≡ first + k * cycle)
now_due {first} {cycle} {n} {r} b one = (b.count, (let x = b.next in omega arith))

-- A timer with a cycle.
module _ (task factor t cycle : ℕ) (starts : 1 ≤ t) (cycles : 1 ≤ cycle) where
  abbrev p : TimerPlace
  p = timer_place task factor t cycle

  record Cyclic (n : ℕ) : Type 0 where
    wait : ℕ
    left : timer_left p n ≡ Some (with_wait p wait)
    between : Between t cycle n wait

  reloaded : timer_after (with_wait p 1) ≡ Some (with_wait p cycle)
  reloaded = grind (arith, nat_tests)

  cyclic_step : (n : ℕ) → Cyclic n → Cyclic (suc n)
  cyclic_step n s =
      let beat = ap (of_left timer_after) s.left in
      let some = s.between.some in
      elim (cases_eq s.wait 1) [
        | inl one ↦ record {
          wait = cycle;
          left = beat ∙ ap (λ r. timer_after (with_wait p r)) one ∙ reloaded;
          between = between_again s.between one cycles;
        }
        | inr more ↦ (let two : 2 ≤ s.wait = omega arith in record {
          wait = s.wait - 1;
          left = beat ∙ goes_on p s.wait two;
          between = between_more s.between two;
        })
      ]

  cyclic : (n : ℕ) → Cyclic n
  cyclic zero = record { wait = t; left = refl; between = between_first t cycle starts }
  cyclic (suc n) = cyclic_step n (cyclic n)

  pub keeps_time : Exactly (timer_fired p) (Start task factor) (λ n. (k : ℕ) × (n ≡ t + k * cycle))
  keeps_time zero = (λ so. let e = so.1 in absurd (omega arith), λ _. refl)
  keeps_time (suc n) =
      let s = cyclic n in
      let beat = ap (of_left timer_fires) s.left in
      let some = s.between.some in
      elim (cases_eq s.wait 1) [
        | inl one ↦ (λ _. beat ∙ ap (λ r. timer_fires (with_wait p r)) one, λ no. absurd (no (now_due s.between one)))
        | inr more ↦ (let two : 2 ≤ s.wait = omega arith in (λ so. absurd (none_between s.between two so), λ _. beat ∙ stays_still p s.wait two))
      ]

-- An entry that goes when it fires.
module _ (p : TimerPlace) (f : Firing) (starts : 1 ≤ p.wait) (fires : timer_fires (with_wait p 1) ≡ Some f) (goes : timer_after (with_wait p 1) ≡ None) where
  waits : (n r : ℕ) → n + r ≡ p.wait → 1 ≤ r → timer_left p n ≡ Some (with_wait p r)
  waits zero r e h = let all : p.wait ≡ r = omega arith in ap (λ x. Some (with_wait p x)) all
  waits (suc n) r e h =
      let same : r + 1 - 1 ≡ r = omega arith in
      ap (of_left timer_after) (waits n (r + 1) (omega arith) (omega arith)) ∙ goes_on p (r + 1) (omega arith) ∙ ap (λ x. Some (with_wait p x)) same

  gone : (n : ℕ) → p.wait ≤ n → timer_left p n ≡ None
  gone zero h = absurd (omega arith)
  gone (suc n) h =
      elim (cases_lt n p.wait) [
        | inl lt ↦ ap (of_left timer_after) (waits n 1 (omega arith) (omega arith)) ∙ goes
        | inr past ↦ ap (of_left timer_after) (gone n past)
      ]

  fires_then : Exactly (timer_fired p) f (λ n. n ≡ p.wait)
  fires_then zero = (λ e. absurd (omega arith), λ _. refl)
  fires_then (suc n) =
      elim (cases_lt n p.wait) [
        | inl lt ↦ elim (cases_eq (suc n) p.wait) [
          | inl at ↦ (λ _. ap (of_left timer_fires) (waits n 1 (omega arith) (omega arith)) ∙ fires, λ no. absurd (no at))
          | inr other ↦ (
            λ e. absurd (other e),
            λ _. ap (of_left timer_fires) (waits n (p.wait - n) (omega arith) (omega arith)) ∙ stays_still p (p.wait - n) (omega arith),
          )
        ]
        | inr past ↦ (λ e. absurd (omega arith), λ _. ap (of_left timer_fires) (gone n past))
      ]

  pub once : Once p p.wait f
  once = (fires_then, waits, gone)
