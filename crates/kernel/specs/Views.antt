-- What a live station means to the rules, whatever roll it holds.
use Rattle.std.specs.Prelude.{ℕ, Bool, List, is_some, Some, None, Option, slice_index_or, unwrap_or}
use Rattle.roll.specs.Model.{Model}
use Rattle.table.specs.Rows.{entries}
use Rattle.table.specs.Timers.{standing}
use Rattle.table.specs.Wakes.{wake_stands}
use Rattle.book.specs.declared.sections.TaskRow.{TaskRow}
use Rattle.book.specs.Reader.{task_in, registered_in, level_in}
use Rattle.rules.specs.State.{Setup, Station}
use Rattle.tasks.specs.Views.{view}
use Rattle.kernel.specs.declared.setup.Setup.{Setup as SetupOf}
use Rattle.kernel.specs.declared.kernel.Kernel.{Kernel}

-- what is kept of the book
abbrev pub row_by : SetupOf → ℕ → Option ℕ
row_by s t = slice_index_or s.rows t None

abbrev pub registered_by : SetupOf → ℕ → Bool
registered_by s t = is_some (row_by s t)

abbrev pub written_by : SetupOf → ℕ → ℕ
written_by s t = unwrap_or (row_by s t) 0

-- the written level in a row of a book, and that of each task with a row
abbrev pub level_in_row : Option TaskRow → Option ℕ
level_in_row None = None
level_in_row (Some r) = Some r.level

abbrev pub row_in : List ℕ → ℕ → Option ℕ
row_in bytes t = level_in_row (task_in bytes t)

-- what a book says of its tasks, for a station whose roll has a lever or not
abbrev pub setup_in : Bool → List ℕ → Setup
setup_in lever bytes = record { registered = registered_in bytes; written = level_in bytes; lever = lever }

-- the station, by the meaning of its roll and whether that has a lever
abbrev pub seen : {R : Type 0} → (R → Model) → Bool → Kernel R → Station
seen meaning lever s = record {
  setup = record { registered = registered_by s.setup; written = written_by s.setup; lever = lever };
  state = record {
    tasks = view meaning s.tasks;
    timers = entries standing s.timers;
    wakes = entries wake_stands s.wakes;
    clock = s.clock.millis;
  };
}
