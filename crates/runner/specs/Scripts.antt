-- Scripts: where each task stands in its own, and what one step does.
use Rattle.std.specs.Prelude.{ℕ, ◌+◌, Bool, true, false, cond, ◌||◌, List, [], ◌∷◌, ◌++◌, take, drop, Some, None, Option, ◌==◌}
use Rattle.sheet.specs.declared.event.Event.{Event}
use Rattle.sheet.specs.declared.event.Kind.{Kind}
use Rattle.sheet.specs.declared.event.Kind.TheVariants.{Accepted, Missed, Ended, Cut, Wakened, Runs}
use Rattle.roll.specs.Tables.{put}
use Rattle.book.specs.Reader.{script_place}
use Rattle.rules.specs.declared.call.Call.{Call}
use Rattle.rules.specs.declared.call.Call.TheVariants.{Macro as Issues, Tick}
use Rattle.rules.specs.declared.call.Macro.{Macro}
use Rattle.rules.specs.declared.call.Macro.TheVariants.{Rleas, Queue, Abort, Delay, Timer, Ctime, Chap, Sfact, Gfact, Susp, Rsum, Wake, Cwake, Stime, Exit}
use Rattle.rules.specs.State.{Station, running}
use Rattle.rules.specs.Refusals.{Step}
use Rattle.rules.specs.Calls.{called}
use Rattle.runner.specs.declared.instruction.Instruction.{Instruction}
use Rattle.runner.specs.declared.instruction.Instruction.TheVariants.{Macro as MacroRow, Jump}
use Rattle.runner.specs.declared.positions.Position.{Position}
use Rattle.runner.specs.Instructions.{decoded}

-- every run of a task begins at row 0 with register 0
abbrev pub beginning : Position
beginning = record { row = 0; register = 0 }

-- the events that say that a start has finished
abbrev pub finishes : Kind → Bool
finishes Accepted = false
finishes Missed = false
finishes Ended = true
finishes Cut = true
finishes Wakened = false
finishes Runs = false

-- with each of them its task goes back to the beginning
abbrev pub set_back : (ℕ → Position) → Event → ℕ → Position
set_back ps e = cond (finishes e.kind) (put ps e.task beginning) ps

unfoldable pub set_back_by : (ℕ → Position) → List Event → ℕ → Position
set_back_by ps [] = ps
set_back_by ps (e ∷ es) = set_back_by (set_back ps e) es

-- the instruction in a row of a task's script; beyond the script there is none
abbrev pub instruction_in : List ℕ → Option ℕ → Option Instruction
instruction_in b None = None
instruction_in b (Some p) = decoded (take 12 (drop p b))

unfoldable pub instruction_of : List ℕ → ℕ → ℕ → Option Instruction
instruction_of b t row = instruction_in b (script_place b t row)

-- what gfact answers goes into the register; no other macro changes it
abbrev pub register_after : Macro → ℕ → ℕ → ℕ
register_after (Rleas t) answer register = register
register_after (Queue t x) answer register = register
register_after (Abort t) answer register = register
register_after (Delay n) answer register = register
register_after (Timer t n c x) answer register = register
register_after (Ctime t x) answer register = register
register_after (Chap t l) answer register = register
register_after (Sfact t x) answer register = register
register_after Gfact answer register = answer
register_after (Susp t) answer register = register
register_after (Rsum t) answer register = register
register_after (Wake t x n c) answer register = register
register_after (Cwake t x) answer register = register
register_after (Stime n) answer register = register
register_after Exit answer register = register

-- the next row, after a macro that was answered so, whether it was obeyed or turned down
abbrev pub passed : Macro → ℕ → Position → Position
passed m answer p = record { row = p.row + 1; register = register_after m answer p.register }

-- a jump goes to row t if the register equals x or x is 255, and to the next row if not
abbrev pub jumped : ℕ → ℕ → Position → Position
jumped x t p = record { row = cond (p.register == x || x == 255) t (p.row + 1); register = p.register }

-- a station, and where its tasks stand in their scripts
pub record Progress : Type 0 where
  pub station : Station
  pub positions : ℕ → Position

-- what has come of something done: how far all is then, and the events told
pub record Outcome : Type 0 where
  pub progress : Progress
  pub told : List Event

-- the task with the processor; 0 means that it is idle
unfoldable pub processor : Station → ℕ
processor s = running s.state.tasks

-- what comes back from a call on a sheet of a hundred records
unfoldable pub asked : Station → Call → Step
asked s c = called s.setup s.state c 100

abbrev pub after : Station → Call → Station
after s c = record { setup = s.setup; state = (asked s c).state }

-- a call from these positions: the events that it tells set tasks back
abbrev pub calling : Station → (ℕ → Position) → Call → Outcome
calling s ps c = record { progress = record { station = after s c; positions = set_back_by ps (asked s c).told }; told = (asked s c).told }

-- the task t is at this position from now on
abbrev pub moving : Progress → ℕ → Position → ℕ → Position
moving p t position = put p.positions t position

-- What the task t does: a macro, a jump, or, where there is no instruction, its exit.
abbrev pub does : Progress → ℕ → Option Instruction → Outcome
does p t None = calling p.station p.positions (Issues Exit)
does p t (Some (MacroRow m)) = calling p.station (moving p t (passed m (asked p.station (Issues m)).factor (p.positions t))) (Issues m)
does p t (Some (Jump x n)) = record { progress = record { station = p.station; positions = moving p t (jumped x n (p.positions t)) }; told = [] }

abbrev pub nothing : Progress → Outcome
nothing p = record { progress = p; told = [] }

-- the task with the processor, if any, does the row that it stands at
abbrev pub acted : List ℕ → Progress → ℕ → Outcome
acted b p t = cond (t == 0) (nothing p) (does p t (instruction_of b t (p.positions t).row))

unfoldable pub row_done : List ℕ → Progress → Outcome
row_done b p = acted b p (processor p.station)

-- one millisecond passes
unfoldable pub tick_done : Progress → Outcome
tick_done p = calling p.station p.positions Tick

-- one step: a row, and then a tick
unfoldable pub stepped : List ℕ → Progress → Outcome
stepped b p = record {
  progress = (tick_done (row_done b p).progress).progress;
  told = (row_done b p).told ++ (tick_done (row_done b p).progress).told;
}
