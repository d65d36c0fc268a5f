-- How a book lies in its bytes: the header, the task rows, the instruction rows.
use Rattle.std.specs.Prelude.{ℕ, zero, suc, ◌+◌, ◌*◌, Bool, cond, List, is_some, Some, None, Option, ◌==◌, slice_index}
use Rattle.book.specs.declared.sections.Layout.{Layout}
use Rattle.book.specs.declared.sections.TaskRow.{TaskRow}
use Rattle.book.specs.Numbers.{be16, be32}

-- the header: two counts, each with its offset, and the steps
abbrev pub layout_of : List ℕ → Layout
layout_of b = record {
  tasks = record { count = be16 b 0; offset = be16 b 2 };
  instructions = record { count = be16 b 4; offset = be16 b 6 };
  steps = be32 b 8;
}

-- a task row has 6 bytes: number, level, first instruction and length of the script
abbrev pub place_of_task : Layout → ℕ → ℕ
place_of_task l i = l.tasks.offset + 6 * i

abbrev pub number_at : List ℕ → Layout → ℕ → ℕ
number_at b l i = slice_index b (place_of_task l i)

abbrev pub level_at : List ℕ → Layout → ℕ → ℕ
level_at b l i = slice_index b (place_of_task l i + 1)

abbrev pub first_at : List ℕ → Layout → ℕ → ℕ
first_at b l i = be16 b (place_of_task l i + 2)

abbrev pub length_at : List ℕ → Layout → ℕ → ℕ
length_at b l i = be16 b (place_of_task l i + 4)

abbrev pub task_at : List ℕ → Layout → ℕ → TaskRow
task_at b l i = record { number = number_at b l i; level = level_at b l i; first = first_at b l i; length = length_at b l i }

-- an instruction row has 12 bytes: letter, task, x, 0, t, cycle
abbrev pub place_of_instruction : Layout → ℕ → ℕ
place_of_instruction l i = l.instructions.offset + 12 * i

-- where the sections end
abbrev pub end_of_tasks : Layout → ℕ
end_of_tasks l = place_of_task l l.tasks.count

abbrev pub end_of_instructions : Layout → ℕ
end_of_instructions l = place_of_instruction l l.instructions.count

-- the first of the first n task rows that is numbered t
abbrev pub or_else : Option ℕ → Option ℕ → Option ℕ
or_else None o = o
or_else (Some k) o = Some k

abbrev pub row_for : List ℕ → Layout → ℕ → ℕ → Option ℕ
row_for b l t zero = None
row_for b l t (suc n) = or_else (row_for b l t n) (cond (number_at b l n == t) (Some n) None)

-- one of the first n task rows is numbered t
abbrev pub numbered : List ℕ → Layout → ℕ → ℕ → Bool
numbered b l t n = is_some (row_for b l t n)
