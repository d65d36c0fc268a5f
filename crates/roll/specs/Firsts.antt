-- Which task has the processor.
use Rattle.std.specs.Prelude.{ℕ, Bool, cond, not, ◌&&◌, List, [], ◌∷◌, Some, None, filter, Option, nat_lt}
use Rattle.roll.specs.Entries.{cleared}
use Rattle.roll.specs.declared.entry.Entry.{Entry}

-- the oldest entry of each task, oldest first
abbrev pub fronts : List Entry → List Entry
fronts [] = []
fronts (e ∷ es) = e ∷ cleared e.task (fronts es)

-- an entry may have the processor if it is awake and its task is not held
abbrev pub startable : (ℕ → Bool) → Entry → Bool
startable held e = not e.asleep && not (held e.task)

-- of two entries the one with the better level, and the first if they have the same
abbrev pub better : Option Entry → Option Entry → Option Entry
better None q = q
better (Some e) None = Some e
better (Some e) (Some f) = cond (nat_lt f.level e.level) (Some f) (Some e)

-- of all entries the one with the best level, and the oldest of these
abbrev pub best : List Entry → Option Entry
best [] = None
best (e ∷ es) = better (Some e) (best es)

abbrev pub task_of : Option Entry → Option ℕ
task_of None = None
task_of (Some e) = Some e.task

-- the task with the processor, or none
abbrev pub first_of : (ℕ → Bool) → List Entry → Option ℕ
first_of held es = task_of (best (filter (startable held) (fronts es)))
