-- What a station is to its rules.
use Rattle.std.specs.Prelude.{ℕ, Bool, List, Some, None, Option}
use Rattle.roll.specs.Model.{Model, first_in}
use Rattle.table.specs.declared.timer.TimerPlace.{TimerPlace}
use Rattle.table.specs.declared.wake.WakePlace.{WakePlace}

-- what no call changes: the tasks that the book has a row for, their written levels, and whether the roll has a lever
pub record Setup : Type 0 where
  pub registered : ℕ → Bool
  pub written : ℕ → ℕ
  pub lever : Bool

-- the tasks: which are released (the others are dormant), their present levels, their sets of factors, and their starts
pub record Tasks : Type 0 where
  pub released : ℕ → Bool
  pub level : ℕ → ℕ
  pub factors : ℕ → ℕ → Bool
  pub roll : Model

-- all that a call may change; the clock is in milliseconds of the day
pub record State : Type 0 where
  pub tasks : Tasks
  pub timers : List TimerPlace
  pub wakes : List WakePlace
  pub clock : ℕ

pub record Station : Type 0 where
  pub setup : Setup
  pub state : State

-- a task's number, and 0 for none
abbrev pub numbered : Option ℕ → ℕ
numbered None = 0
numbered (Some t) = t

-- who has the processor; 0 means that it is idle
abbrev pub running : Tasks → ℕ
running s = numbered (first_in s.roll)
