-- What the tests' target makes of a firing: it knows the task that was fired last.
use Rattle.std.specs.Prelude.{ℕ, cond, ◌==◌}
use Rattle.sheet.specs.declared.event.Event.{Event}
use Rattle.sheet.specs.declared.event.Kind.TheVariants.{Accepted, Missed, Wakened}
use Rattle.table.specs.declared.firing.Firing.{Firing}
use Rattle.table.specs.declared.firing.Firing.TheVariants.{Start, Rouse}

abbrev pub task_of : Firing → ℕ
task_of (Start task factor) = task
task_of (Rouse task) = task

-- a start of the task that was fired last is missed
abbrev pub told_of : ℕ → Firing → Event
told_of last (Start task factor) = record { kind = cond (task == last) Missed Accepted; task = task }
told_of last (Rouse task) = record { kind = Wakened; task = task }
