-- The tests that a book has to pass, and the verdict: which fault is told.
use Rattle.std.specs.Prelude.{◌≡◌, ℕ, zero, suc, ◌+◌, ◌≤◌, Bool, true, false, cond, not, ◌&&◌, ◌||◌, ◌⊎◌, List, [], ◌∷◌, ◌++◌, length, Some, None, Ok, Err, Option, Result, ◌==◌, nat_lt, slice_index}
use Rattle.book.specs.declared.faults.Cause.{Cause}
use Rattle.book.specs.declared.faults.Cause.TheVariants.{Size, Range, Sections, BadTask, NoTaskOne, BadInstruction}
use Rattle.book.specs.declared.faults.Fault.{Fault}
use Rattle.book.specs.declared.sections.Layout.{Layout}
use Rattle.book.specs.Numbers.{outside}
use Rattle.book.specs.Letters.{known}
use Rattle.book.specs.Layout.{layout_of, place_of_task, end_of_tasks, place_of_instruction, end_of_instructions, number_at, level_at, first_at, length_at, numbered}
use Rattle.book.specs.Faults.{fault, before}

-- a section begins before byte 12, where the header ends, or ends past the book
abbrev pub astray : List ℕ → ℕ → ℕ → Bool
astray b from to = nat_lt from 12 || nat_lt (length b) to

-- the sections have a byte in common: an empty one has none, else each begins before the other ends
abbrev pub overlap : Layout → Bool
overlap l =
    (not (l.tasks.count == 0) && not (l.instructions.count == 0))
    && (nat_lt l.tasks.offset (end_of_instructions l) && nat_lt l.instructions.offset (end_of_tasks l))

-- task row i: number outside 1 to 127 or used before, level above 4, script past the instructions
abbrev pub bad_task : List ℕ → Layout → ℕ → Bool
bad_task b l i =
    outside 1 127 (number_at b l i)
    || (numbered b l (number_at b l i) i
    || (nat_lt 4 (level_at b l i)
    || nat_lt l.instructions.count (first_at b l i + length_at b l i)))

-- instruction row i: unknown letter, or fourth byte not 0
abbrev pub bad_instruction : List ℕ → Layout → ℕ → Bool
bad_instruction b l i =
    not (known (slice_index b (place_of_instruction l i))) || not (slice_index b (place_of_instruction l i + 3) == 0)

-- a test: whether it fails, and the fault that there is then
pub record Test : Type 0 where
  pub fails : Bool
  pub tells : Fault

abbrev pub test : Bool → Cause → ℕ → Test
test t why p = record { fails = t; tells = fault why p }

abbrev pub size_tests : List ℕ → List Test
size_tests b = test (outside 12 65535 (length b)) Size 0 ∷ []

abbrev pub header_tests : List ℕ → Layout → List Test
header_tests b l =
    test (outside 1 127 l.tasks.count) Range 0
    ∷ test (outside 0 4096 l.instructions.count) Range 4
    ∷ test (outside 0 1000000 l.steps) Range 8
    ∷ test (astray b l.tasks.offset (end_of_tasks l)) Sections 2
    ∷ test (astray b l.instructions.offset (end_of_instructions l)) Sections 6
    ∷ test (overlap l) Sections 6
    ∷ []

-- a test for each of n rows, the last row first
abbrev pub rows : (ℕ → Test) → ℕ → List Test
rows each zero = []
rows each (suc n) = each n ∷ rows each n

abbrev pub task_test : List ℕ → Layout → ℕ → Test
task_test b l i = test (bad_task b l i) BadTask (place_of_task l i)

abbrev pub task_tests : List ℕ → Layout → List Test
task_tests b l =
    test (not (numbered b l 1 l.tasks.count)) NoTaskOne l.tasks.offset
    ∷ rows (task_test b l) l.tasks.count

abbrev pub instruction_test : List ℕ → Layout → ℕ → Test
instruction_test b l i = test (bad_instruction b l i) BadInstruction (place_of_instruction l i)

abbrev pub instruction_tests : List ℕ → Layout → List Test
instruction_tests b l = rows (instruction_test b l) l.instructions.count

abbrev pub row_tests : List ℕ → Layout → List Test
row_tests b l = task_tests b l ++ instruction_tests b l

abbrev pub tests : List ℕ → Layout → List Test
tests b l = size_tests b ++ (header_tests b l ++ row_tests b l)

-- of the tests that fail, the fault that is told: the first by `before`
abbrev pub sooner : Fault → Option Fault → Fault
sooner f None = f
sooner f (Some g) = cond (before g f) g f

abbrev pub first : List Test → Option Fault
first [] = None
first (t ∷ ts) = cond t.fails (Some (sooner t.tells (first ts))) (first ts)

unfoldable pub told : List ℕ → Option Fault
told b = first (tests b (layout_of b))

-- no fault is told
abbrev pub clean : Option Fault → Bool
clean None = true
clean (Some f) = false

-- the layout, or the fault that is told
abbrev pub judged : Option Fault → Layout → Result Layout Fault
judged None l = Ok l
judged (Some f) l = Err f

abbrev pub verdict : List ℕ → Result Layout Fault
verdict b = judged (told b) (layout_of b)

-- f is the fault of one of the tests, and that test fails
abbrev pub Found : Fault → List Test → Type 0
Found f [] = ⊥
Found f (t ∷ ts) = ((t.fails ≡ true) × (f ≡ t.tells)) ⊎ Found f ts

-- there is no fault at all
abbrev pub Faultless : List Test → Type 0
Faultless ts = (g : Fault) → Found g ts → ⊥

-- f is a fault and none comes before it
abbrev pub Firsts : List Test → Fault → Type 0
Firsts ts f = Found f ts × ((g : Fault) → Found g ts → before g f ≡ false)

-- r passes where there is no fault at all, and else tells the one that none comes before
abbrev pub Tells : {X : Type 0} → List Test → Result X Fault → Type 0
Tells ts (Ok x) = Faultless ts
Tells ts (Err f) = Firsts ts f

-- no other fault could be told so
abbrev pub OnlyTells : List Test → Result Layout Fault → Type 0
OnlyTells ts r = (f : Fault) → Firsts ts f → r ≡ Err f

-- what a header without faults says of the two sections
pub record Framed (b : List ℕ) (l : Layout) : Type 0 where
  pub some : 1 ≤ l.tasks.count
  pub tasks : end_of_tasks l ≤ length b
  pub instructions : end_of_instructions l ≤ length b
  pub apart : overlap l ≡ false
