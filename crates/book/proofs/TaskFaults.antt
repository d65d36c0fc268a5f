-- The task rows: a fault of row 0, then no row for task 1, then the other rows.
use Rattle.std.proofs.Common.{◌≡◌, ℕ, ◌<◌, ◌≤◌, true, false, not, ◌⊎◌, List, sym, refl, ap, subst, inl, inr, arith}
use Rattle.std.proofs.lemmas.Bool.{cases_order, both_ways, not-true}
use Rattle.std.proofs.lemmas.Bool.Decides.{nat_tests}
use Rattle.book.specs.declared.faults.Fault.{Fault}
use Rattle.book.specs.declared.sections.Layout.{Layout}
use Rattle.book.specs.declared.faults.Cause.TheVariants.{BadTask, NoTaskOne}
use Rattle.book.specs.Layout.{place_of_task, numbered}
use Rattle.book.specs.Faults.{fault, before}
use Rattle.book.specs.Verdict.{test, Found, Faultless, Firsts, rows, bad_task, task_test, task_tests}
use Rattle.book.proofs.Found.{each_test, each_row, in_row, task_order}

-- what holds of each fault of the task rows
each_task : (P : Fault → Type 0) (b : List ℕ) (l : Layout)
    → (numbered b l 1 l.tasks.count ≡ false → P (fault NoTaskOne l.tasks.offset))
    → ((k : ℕ) → k < l.tasks.count → bad_task b l k ≡ true → P (fault BadTask (place_of_task l k)))
    → (g : Fault) → Found g (task_tests b l) → P g
each_task P b l h k =
    each_test P (test (not (numbered b l 1 l.tasks.count)) NoTaskOne l.tasks.offset) (rows (task_test b l) l.tasks.count)
    (λ e. h (not-true _ e)) (each_row P (task_test b l) l.tasks.count k)

at_offset : (l : Layout) → before (fault NoTaskOne l.tasks.offset) (fault BadTask (place_of_task l 0)) ≡ false
at_offset l = grind (arith, nat_tests)

past_offset : (l : Layout) (k : ℕ) → 0 < k → before (fault BadTask (place_of_task l k)) (fault NoTaskOne l.tasks.offset) ≡ false
past_offset l k h = grind (arith, nat_tests)

-- row 0 fails
tasks_zero : (b : List ℕ) (l : Layout) → 1 ≤ l.tasks.count → bad_task b l 0 ≡ true → Firsts (task_tests b l) (fault BadTask (place_of_task l 0))
tasks_zero b l s e = (
  inr (in_row (task_test b l) l.tasks.count 0 s e),
  each_task (λ g. before g (fault BadTask (place_of_task l 0)) ≡ false) b l (λ _. at_offset l) (λ k _ _. task_order l k 0 (omega arith)),
)

-- row 0 passes, and no row is for task 1
tasks_first : (b : List ℕ) (l : Layout) → bad_task b l 0 ≡ false → numbered b l 1 l.tasks.count ≡ false → Firsts (task_tests b l) (fault NoTaskOne l.tasks.offset)
tasks_first b l p e = (
  inl (ap not e, refl),
  each_task (λ g. before g (fault NoTaskOne l.tasks.offset) ≡ false) b l (λ _. grind (arith, nat_tests))
      (λ k _ t. elim (cases_order k 0) [
        | inl q ↦ absurd (both_ways (bad_task b l 0) p (subst (λ (m : ℕ). bad_task b l m ≡ true) q t))
        | inr o ↦ past_offset l k (omega arith)
      ]),
)

-- what is told of row 0 and of task 1
pub tasks_head : (b : List ℕ) (l : Layout) (w : Fault) → 1 ≤ l.tasks.count
    → (((bad_task b l 0 ≡ true) × (w ≡ fault BadTask (place_of_task l 0))) ⊎ ((bad_task b l 0 ≡ false) × (not (numbered b l 1 l.tasks.count) ≡ true) × (w ≡ fault NoTaskOne l.tasks.offset)))
    → Firsts (task_tests b l) w
tasks_head b l w s o =
    elim o [
      | inl e ↦ subst (λ (f : Fault). Firsts (task_tests b l) f) (sym e.1) (tasks_zero b l s e.0)
      | inr e ↦ subst (λ (f : Fault). Firsts (task_tests b l) f) (sym e.2) (tasks_first b l e.0 (not-true _ e.1))
    ]

-- a later row is the first that fails
pub tasks_later : (b : List ℕ) (l : Layout) (i : ℕ) → i < l.tasks.count → ((k : ℕ) → k < i → bad_task b l k ≡ false)
    → numbered b l 1 l.tasks.count ≡ true → bad_task b l i ≡ true → Firsts (task_tests b l) (fault BadTask (place_of_task l i))
tasks_later b l i h none some e = (
  inr (in_row (task_test b l) l.tasks.count i h e),
  each_task (λ g. before g (fault BadTask (place_of_task l i)) ≡ false) b l (λ n. absurd (both_ways _ n some))
      (λ k _ t. elim (cases_order k i) [
        | inl q ↦ task_order l k i (omega arith)
        | inr o ↦ elim o [ inl q ↦ absurd (both_ways (bad_task b l k) (none k q) t) | inr q ↦ task_order l k i (omega arith) ]
      ]),
)

pub tasks_none : (b : List ℕ) (l : Layout) → ((k : ℕ) → k < l.tasks.count → bad_task b l k ≡ false)
    → numbered b l 1 l.tasks.count ≡ true → Faultless (task_tests b l)
tasks_none b l none some = each_task (λ g. ⊥) b l (λ n. both_ways _ n some) (λ k h t. both_ways (bad_task b l k) (none k h) t)
