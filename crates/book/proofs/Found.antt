-- What is in the lists of faults, and what it takes to tell the first of them.
use Rattle.std.proofs.Common.{◌≡◌, ℕ, zero, suc, ◌<◌, ◌≤◌, Bool, true, false, cond, not, ◌⊎◌, List, [], ◌∷◌, ◌++◌, Ok, Err, Result, sym, refl, subst, inl, inr, arith}
use Rattle.std.proofs.lemmas.Bool.{cases_order, both_ways}
use Rattle.std.proofs.lemmas.Bool.Decides.{nat_tests}
use Rattle.std.specs.List.{AllByRecursion as All}
use Rattle.std.specs.Result.{result_and}
use Rattle.book.specs.declared.faults.Fault.{Fault}
use Rattle.book.specs.declared.sections.Layout.{Layout}
use Rattle.book.specs.declared.faults.Cause.TheVariants.{BadTask, NoTaskOne, BadInstruction}
use Rattle.book.specs.Layout.{place_of_task, place_of_instruction, numbered}
use Rattle.book.specs.Faults.{fault, before}
use Rattle.book.specs.Verdict.{Test, test, Found, Faultless, Firsts, rows, task_test, task_tests, instruction_test, instruction_tests, row_tests}

-- what holds of each fault that is found
pub each_test : (P : Fault → Type 0) (t : Test) (ts : List Test) → (t.fails ≡ true → P t.tells) → ((g : Fault) → Found g ts → P g) → (g : Fault) → Found g (t ∷ ts) → P g
each_test P t ts h k g m = elim m [ inl e ↦ subst P (sym e.1) (h e.0) | inr r ↦ k g r ]

pub each_append : (P : Fault → Type 0) (ss ts : List Test) → ((g : Fault) → Found g ss → P g) → ((g : Fault) → Found g ts → P g) → (g : Fault) → Found g (ss ++ ts) → P g
each_append P [] ts h k g m = k g m
each_append P (s ∷ ss) ts h k g m = elim m [ inl e ↦ h g (inl e) | inr r ↦ each_append P ss ts (λ f n. h f (inr n)) k g r ]

pub each_of : (P : Fault → Type 0) (ts : List Test) → All (λ t. P t.tells) ts → (g : Fault) → Found g ts → P g
each_of P [] h g m = absurd m
each_of P (t ∷ ts) h g m = each_test P t ts (λ _. h.0) (each_of P ts h.1) g m

pub each_row : (P : Fault → Type 0) (each : ℕ → Test) (n : ℕ) → ((k : ℕ) → k < n → (each k).fails ≡ true → P (each k).tells) → (g : Fault) → Found g (rows each n) → P g
each_row P each zero h g m = absurd m
each_row P each (suc n) h g m =
    each_test P (each n) (rows each n) (h n (omega arith)) (each_row P each n (λ k l. h k (omega arith))) g m

-- what holds of the faults of a row, wherever it lies
pub each_rows : (P : Fault → Type 0) (b : List ℕ) (l : Layout) → ((p : ℕ) → P (fault NoTaskOne p)) → ((p : ℕ) → P (fault BadTask p)) → ((p : ℕ) → P (fault BadInstruction p))
    → (g : Fault) → Found g (row_tests b l) → P g
each_rows P b l one task instruction =
    each_append P (task_tests b l) (instruction_tests b l)
    (each_test P (test (not (numbered b l 1 l.tasks.count)) NoTaskOne l.tasks.offset) (rows (task_test b l) l.tasks.count) (λ _. one l.tasks.offset)
    (each_row P (task_test b l) l.tasks.count (λ k _ _. task (place_of_task l k))))
    (each_row P (instruction_test b l) l.instructions.count (λ k _ _. instruction (place_of_instruction l k)))

-- what is found
pub in_left : (f : Fault) (ss ts : List Test) → Found f ss → Found f (ss ++ ts)
in_left f [] ts m = absurd m
in_left f (s ∷ ss) ts m = elim m [ inl e ↦ inl e | inr r ↦ inr (in_left f ss ts r) ]

pub in_right : (f : Fault) (ss ts : List Test) → Found f ts → Found f (ss ++ ts)
in_right f [] ts m = m
in_right f (s ∷ ss) ts m = inr (in_right f ss ts m)

pub in_row : (each : ℕ → Test) (n k : ℕ) → k < n → (each k).fails ≡ true → Found (each k).tells (rows each n)
in_row each zero k l e = absurd (omega arith)
in_row each (suc n) k l e =
    elim (cases_order k n) [
      | inl h ↦ inl (subst (λ (m : ℕ). ((each m).fails ≡ true) × ((each k).tells ≡ (each m).tells)) h (e, refl))
      | inr o ↦ inr (in_row each n k (elim o [ inl h ↦ h | inr h ↦ absurd (omega arith) ]) e)
    ]

-- the first row that fails is told, where no later row is told before it
pub row_first : (each : ℕ → Test) (n i : ℕ) → ((k : ℕ) → i ≤ k → before (each k).tells (each i).tells ≡ false)
    → i < n → ((k : ℕ) → k < i → (each k).fails ≡ false) → (each i).fails ≡ true → Firsts (rows each n) (each i).tells
row_first each n i order l none e = (
  in_row each n i l e,
  each_row (λ g. before g (each i).tells ≡ false) each n
      (λ k m t. elim (cases_order k i) [
        | inl h ↦ order k (omega arith)
        | inr o ↦ elim o [ inl h ↦ absurd (both_ways (each k).fails (none k h) t) | inr h ↦ order k (omega arith) ]
      ]),
)

pub row_none : (each : ℕ → Test) (n : ℕ) → ((k : ℕ) → k < n → (each k).fails ≡ false) → Faultless (rows each n)
row_none each n none = each_row (λ g. ⊥) each n (λ k l t. both_ways (each k).fails (none k l) t)

-- a row reader's answer, `cond t (Err f) (Ok y)`, taken apart
pub ok_passes : {X : Type 0} (t : Bool) (f : Fault) (x y : X) → Ok x ≡ cond t (Err f) (Ok y) → t ≡ false
ok_passes true f x y e = absurd (cc)
ok_passes false f x y e = refl

pub err_told : {X : Type 0} (t : Bool) (f g : Fault) (y : X) → Err g ≡ cond t (Err f) (Ok y) → (t ≡ true) × (g ≡ f)
err_told true f g y e = (refl, cc)
err_told false f g y e = absurd (cc)

-- two answers, of which the first that is a fault counts
err_by : {X Y : Type 0} (s t : Bool) (f g w : Fault) (x : X) (y : Y) → Err w ≡ result_and (cond s (Err f) (Ok x)) (cond t (Err g) (Ok y))
    → ((s ≡ true) × (w ≡ f)) ⊎ ((s ≡ false) × (t ≡ true) × (w ≡ g))
err_by true t f g w x y e = inl (refl, cc)
err_by false t f g w x y e = let v = err_told t g w y e in inr (refl, v.0, v.1)

pub and_err : {X Y : Type 0} (s t : Bool) (f g w : Fault) (x : X) (y : Y) (p : Result X Fault) (q : Result Y Fault)
    → p ≡ cond s (Err f) (Ok x) → q ≡ cond t (Err g) (Ok y) → Err w ≡ result_and p q → ((s ≡ true) × (w ≡ f)) ⊎ ((s ≡ false) × (t ≡ true) × (w ≡ g))
and_err s t f g w x y p q h k e = err_by s t f g w x y (rw (h, k) at e)

ok_by : {X Y : Type 0} (s t : Bool) (f g : Fault) (x : X) (y z : Y) → Ok z ≡ result_and (cond s (Err f) (Ok x)) (cond t (Err g) (Ok y)) → (s ≡ false) × (t ≡ false)
ok_by true t f g x y z e = absurd (cc)
ok_by false t f g x y z e = (refl, ok_passes t g z y e)

pub and_ok : {X Y : Type 0} (s t : Bool) (f g : Fault) (x : X) (y z : Y) (p : Result X Fault) (q : Result Y Fault)
    → p ≡ cond s (Err f) (Ok x) → q ≡ cond t (Err g) (Ok y) → Ok z ≡ result_and p q → (s ≡ false) × (t ≡ false)
and_ok s t f g x y z p q h k e = ok_by s t f g x y z (rw (h, k) at e)

-- in one section a later row is not told before an earlier one
pub instruction_order : (l : Layout) (k i : ℕ) → i ≤ k → before (fault BadInstruction (place_of_instruction l k)) (fault BadInstruction (place_of_instruction l i)) ≡ false
instruction_order l k i h = grind (arith, nat_tests)

pub task_order : (l : Layout) (k i : ℕ) → i ≤ k → before (fault BadTask (place_of_task l k)) (fault BadTask (place_of_task l i)) ≡ false
task_order l k i h = grind (arith, nat_tests)
