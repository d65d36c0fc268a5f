-- How the groups and the sections follow one another.
use Rattle.std.proofs.Common.{◌≡◌, ℕ, ◌<◌, ◌≤◌, Bool, true, false, cond, not, List, ◌++◌, Ok, Err, Result, sym, refl, ap, ◌∙◌, subst, inl, inr, arith}
use Rattle.std.specs.Result.{IsErrAnd}
use Rattle.std.proofs.lemmas.Bool.Decides.{nat_tests}
use Rattle.book.specs.declared.faults.Fault.{Fault}
use Rattle.book.specs.declared.sections.Layout.{Layout}
use Rattle.book.specs.declared.faults.Cause.TheVariants.{NoTaskOne}
use Rattle.book.specs.Layout.{end_of_tasks, end_of_instructions, numbered}
use Rattle.book.specs.Faults.{before, group_of}
use Rattle.book.specs.Verdict.{Test, test, Found, Faultless, Firsts, Tells, rows, overlap, size_tests, header_tests, task_test, task_tests, instruction_test, instruction_tests, row_tests, tests, Framed}
use Rattle.book.proofs.Found.{each_test, each_of, each_append, each_row, each_rows, in_left, in_right, err_told}

pub later_group : (f g : Fault) → group_of f.cause < group_of g.cause → before g f ≡ false
later_group f g h = grind (arith, nat_tests)

pub later_place : (f g : Fault) → group_of f.cause ≡ group_of g.cause → f.place < g.place → before g f ≡ false
later_place f g e h = grind (arith, nat_tests)

-- two lists of tests, one after the other
pub firsts_left : (ss ts : List Test) (f : Fault) → Firsts ss f → ((g : Fault) → Found g ts → before g f ≡ false) → Firsts (ss ++ ts) f
firsts_left ss ts f h k = (in_left f ss ts h.0, each_append (λ g. before g f ≡ false) ss ts h.1 k)

pub firsts_right : (ss ts : List Test) (f : Fault) → ((g : Fault) → Found g ss → before g f ≡ false) → Firsts ts f → Firsts (ss ++ ts) f
firsts_right ss ts f k h = (in_right f ss ts h.0, each_append (λ g. before g f ≡ false) ss ts k h.1)

pub none_both : (ss ts : List Test) → Faultless ss → Faultless ts → Faultless (ss ++ ts)
none_both ss ts h k = each_append (λ g. ⊥) ss ts h k

-- the exit of a `?`
pub at_exit : {X : Type 0} (ts : List Test) (r : Result X Fault) (y : Fault) → IsErrAnd r (λ x. x ≡ y) → Firsts ts y → Tells ts r
at_exit ts (Ok x) y p h = absurd p
at_exit ts (Err x) y p h = subst (λ (f : Fault). Firsts ts f) (sym p) h

-- the exit of a `?` after a row reader, whose answer is `cond t (Err f) (Ok z)`
pub at_row_exit : {X Z : Type 0} (ts : List Test) (r : Result X Fault) (t : Bool) (f y : Fault) (z : Z) → IsErrAnd r (λ x. x ≡ y)
    → Err y ≡ cond t (Err f) (Ok z) → (t ≡ true → Firsts ts f) → Tells ts r
at_row_exit ts r t f y z p e h =
    let w = err_told t f y z e in
    at_exit ts r y p (subst (λ (g : Fault). Firsts ts g) (sym w.1) (h w.0))

-- where the faults of a section stand
abbrev pub Stands : ℕ → ℕ → Fault → Type 0
Stands from to g = (group_of g.cause ≡ 2) × (from ≤ g.place) × (g.place < to)

pub task_stands : (b : List ℕ) (l : Layout) → 1 ≤ l.tasks.count → (g : Fault) → Found g (task_tests b l) → Stands l.tasks.offset (end_of_tasks l) g
task_stands b l s =
    each_test (Stands l.tasks.offset (end_of_tasks l)) (test (not (numbered b l 1 l.tasks.count)) NoTaskOne l.tasks.offset) (rows (task_test b l) l.tasks.count)
    (λ _. (refl, omega arith, omega arith))
    (each_row (Stands l.tasks.offset (end_of_tasks l)) (task_test b l) l.tasks.count (λ k h _. (refl, omega arith, omega arith)))

pub instruction_stands : (b : List ℕ) (l : Layout) (g : Fault) → Found g (instruction_tests b l) → Stands l.instructions.offset (end_of_instructions l) g
instruction_stands b l =
    each_row (Stands l.instructions.offset (end_of_instructions l)) (instruction_test b l) l.instructions.count (λ k h _. (refl, omega arith, omega arith))

-- sections that do not overlap follow in the order of their offsets
tasks_lower : (l : Layout) → overlap l ≡ false → 1 ≤ l.tasks.count → l.tasks.offset < l.instructions.offset → (0 < l.instructions.count) → end_of_tasks l ≤ l.instructions.offset
tasks_lower l a s o c = grind (arith, nat_tests)

tasks_higher : (l : Layout) → overlap l ≡ false → 1 ≤ l.tasks.count → l.instructions.offset ≤ l.tasks.offset → (0 < l.instructions.count) → end_of_instructions l ≤ l.tasks.offset
tasks_higher l a s o c = grind (arith, nat_tests)

pub rows_tasks : (b : List ℕ) (l : Layout) (f : Fault) → Framed b l → l.tasks.offset < l.instructions.offset → Firsts (task_tests b l) f → Firsts (row_tests b l) f
rows_tasks b l f w o h =
    firsts_left (task_tests b l) (instruction_tests b l) f h
    (λ g m. let s = task_stands b l w.some f h.0 in let t = instruction_stands b l g m in
    let c : 0 < l.instructions.count = omega arith in
    let e : end_of_tasks l ≤ l.instructions.offset = tasks_lower l w.apart w.some o c in
    later_place f g (s.0 ∙ sym t.0) (omega arith))

pub rows_instructions : (b : List ℕ) (l : Layout) (f : Fault) → Framed b l → l.instructions.offset ≤ l.tasks.offset → Firsts (instruction_tests b l) f → Firsts (row_tests b l) f
rows_instructions b l f w o h =
    firsts_right (task_tests b l) (instruction_tests b l) f
    (λ g m. let s = task_stands b l w.some g m in let t = instruction_stands b l f h.0 in
    let c : 0 < l.instructions.count = omega arith in
    let e : end_of_instructions l ≤ l.tasks.offset = tasks_higher l w.apart w.some o c in
    later_place f g (t.0 ∙ sym s.0) (omega arith)) h

-- the second section is told where the first has no fault
pub tells_second : {X : Type 0} (ss ts : List Test) (r : Result X Fault) → Faultless ss → Tells ts r → Tells (ss ++ ts) r
tells_second ss ts (Ok x) h k = none_both ss ts h k
tells_second ss ts (Err f) h k = firsts_right ss ts f (λ g m. absurd (h g m)) k

pub tells_first : {X : Type 0} (ss ts : List Test) (r : Result X Fault) → Faultless ts → Tells ss r → Tells (ss ++ ts) r
tells_first ss ts (Ok x) h k = none_both ss ts k h
tells_first ss ts (Err f) h k = firsts_left ss ts f k (λ g m. absurd (h g m))

-- the groups
abbrev pub InGroup : ℕ → Fault → Type 0
InGroup n g = group_of g.cause ≡ n

pub size_group : (b : List ℕ) (g : Fault) → Found g (size_tests b) → InGroup 0 g
size_group b g m = elim m [ inl e ↦ ap (λ (f : Fault). group_of f.cause) e.1 | inr n ↦ absurd n ]

pub header_group : (b : List ℕ) (l : Layout) (g : Fault) → Found g (header_tests b l) → InGroup 1 g
header_group b l = each_of (InGroup 1) (header_tests b l) (refl, (refl, (refl, (refl, (refl, (refl, tt))))))

pub rows_group : (b : List ℕ) (l : Layout) (g : Fault) → Found g (row_tests b l) → InGroup 2 g
rows_group b l = each_rows (InGroup 2) b l (λ _. refl) (λ _. refl) (λ _. refl)

pub tells_size : (b : List ℕ) (l : Layout) (f : Fault) → Firsts (size_tests b) f → Firsts (tests b l) f
tells_size b l f h =
    firsts_left (size_tests b) (header_tests b l ++ row_tests b l) f h
    (each_append (λ g. before g f ≡ false) (header_tests b l) (row_tests b l)
    (λ g m. let p = size_group b f h.0 in let q = header_group b l g m in later_group f g (omega (arith, p, q)))
    (λ g m. let p = size_group b f h.0 in let q = rows_group b l g m in later_group f g (omega (arith, p, q))))

pub tells_header : (b : List ℕ) (l : Layout) (f : Fault) → Faultless (size_tests b) → Firsts (header_tests b l) f → Firsts (tests b l) f
tells_header b l f n h =
    firsts_right (size_tests b) (header_tests b l ++ row_tests b l) f (λ g m. absurd (n g m))
    (firsts_left (header_tests b l) (row_tests b l) f h
    (λ g m. let p = header_group b l f h.0 in let q = rows_group b l g m in later_group f g (omega (arith, p, q))))

pub tells_rows : (b : List ℕ) (l m : Layout) (f : Fault) → l ≡ m → Faultless (size_tests b) → Faultless (header_tests b m)
    → Firsts (row_tests b l) f → Firsts (tests b m) f
tells_rows b l m f e n k h =
    firsts_right (size_tests b) (header_tests b m ++ row_tests b m) f (λ g w. absurd (n g w))
    (firsts_right (header_tests b m) (row_tests b m) f (λ g w. absurd (k g w))
    (subst (λ (q : Layout). Firsts (row_tests b q) f) e h))

pub tells_none : (b : List ℕ) (l m : Layout) → l ≡ m → Faultless (size_tests b) → Faultless (header_tests b m)
    → Faultless (row_tests b l) → Faultless (tests b m)
tells_none b l m e n k h =
    none_both (size_tests b) (header_tests b m ++ row_tests b m) n
    (none_both (header_tests b m) (row_tests b m) k
    (subst (λ (q : Layout). Faultless (row_tests b q)) e h))
