-- What a book says: its tasks, their levels and scripts, the steps; and the book that is opened.
use Rattle.std.specs.Prelude.{◌≡◌, ℕ, ◌+◌, Bool, cond, List, [], ◌∷◌, take, drop, is_some, Some, None, Option, nat_lt}
use Rattle.std.specs.Borrow.{Bor}
use Rattle.book.specs.declared.faults.Fault.{Fault}
use Rattle.book.specs.declared.sections.Layout.{Layout}
use Rattle.book.specs.declared.sections.TaskRow.{TaskRow}
use Rattle.book.specs.Numbers.{be16, be32}
use Rattle.book.specs.Layout.{layout_of, row_for, task_at, place_of_instruction}
use Rattle.book.specs.Verdict.{told}

-- how many tasks are registered, and for how many steps a runner runs
abbrev pub count_in : List ℕ → ℕ
count_in b = be16 b 0

abbrev pub steps_in : List ℕ → ℕ
steps_in b = be32 b 8

-- the row of task t
abbrev pub row_at : List ℕ → Layout → Option ℕ → Option TaskRow
row_at b l None = None
row_at b l (Some k) = Some (task_at b l k)

abbrev pub task_of : List ℕ → Layout → ℕ → Option TaskRow
task_of b l t = row_at b l (row_for b l t l.tasks.count)

abbrev pub task_in : List ℕ → ℕ → Option TaskRow
task_in b t = task_of b (layout_of b) t

-- a task is registered when it has a row
abbrev pub registered_in : List ℕ → ℕ → Bool
registered_in b t = is_some (task_in b t)

-- the written level, and how many instructions the script has: 0 for a task with no row
abbrev pub level_of : Option TaskRow → ℕ
level_of None = 0
level_of (Some r) = r.level

abbrev pub level_in : List ℕ → ℕ → ℕ
level_in b t = level_of (task_in b t)

abbrev pub length_of : Option TaskRow → ℕ
length_of None = 0
length_of (Some r) = r.length

abbrev pub length_in : List ℕ → ℕ → ℕ
length_in b t = length_of (task_in b t)

-- the byte at which instruction i of a script begins; beyond the script there is none
abbrev pub place_of : Layout → Option TaskRow → ℕ → Option ℕ
place_of l None i = None
place_of l (Some r) i = cond (nat_lt i r.length) (Some (place_of_instruction l (r.first + i))) None

abbrev pub script_place : List ℕ → ℕ → ℕ → Option ℕ
script_place b t i = place_of (layout_of b) (task_in b t) i

-- r is the twelve bytes of s from a place on, where they lie in s; or none, where there is no place
abbrev pub Handed : Bor (List ℕ) → Option ℕ → Option (Bor (List ℕ)) → Type 0
Handed s None None = Unit {0}
Handed s None (Some r) = ⊥
Handed s (Some p) None = ⊥
Handed s (Some p) (Some r) = (r.now ≡ take 12 (drop p s.now)) × (r.ref_ptr ≡ (s.ref_ptr.0, s.ref_ptr.1 + p))

-- the blank book: task 1 at level 4, no instructions, no steps
abbrev pub blank_bytes : List ℕ
blank_bytes = 0 ∷ 1 ∷ 0 ∷ 12 ∷ 0 ∷ 0 ∷ 0 ∷ 18 ∷ 0 ∷ 0 ∷ 0 ∷ 0 ∷ 1 ∷ 4 ∷ 0 ∷ 0 ∷ 0 ∷ 0 ∷ []

-- the book that is opened: where there is a fault, the blank one
abbrev pub or_blank : Option Fault → List ℕ → List ℕ
or_blank None b = b
or_blank (Some f) b = blank_bytes

abbrev pub opened : List ℕ → List ℕ
opened b = or_blank (told b) b
