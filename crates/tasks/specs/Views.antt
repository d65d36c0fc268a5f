-- What a table of tasks means, whatever roll it holds.
use Rattle.std.specs.Prelude.{ℕ, false, slice_index_or}
use Rattle.std.proofs.Common.{lit<}
use Rattle.roll.specs.Model.{Model}
use Rattle.rules.specs.State.{Tasks}
use Rattle.tasks.specs.Factors.{members}
use Rattle.tasks.specs.declared.task_table.TaskRecord.{TaskRecord}
use Rattle.tasks.specs.declared.task_table.TaskTable.{TaskTable}

-- a task that the table has no record of is dormant, at level 0, and has no factor
abbrev pub blank : TaskRecord
blank = record { released = false; level = 0; factors = record { bits = 0; seventeen = lit< tt } }

abbrev pub record_of : {R : Type 0} → TaskTable R → ℕ → TaskRecord
record_of s t = slice_index_or s.records t blank

abbrev pub view : {R : Type 0} → (R → Model) → TaskTable R → Tasks
view meaning s = record {
  released = λ t. (record_of s t).released;
  level = λ t. (record_of s t).level;
  factors = λ t. members (record_of s t).factors;
  roll = meaning s.roll;
}
