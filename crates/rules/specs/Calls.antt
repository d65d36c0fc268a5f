-- What every call does: what comes back, by the table of refusals or by the effect of an obeyed call.
use Rattle.std.specs.Prelude.{◌≡◌, ℕ, cond, List, [], ◌∷◌, length, None}
use Rattle.sheet.specs.declared.event.Event.{Event}
use Rattle.sheet.specs.Sheets.{written}
use Rattle.rules.specs.declared.answer.Code.TheVariants.{Done}
use Rattle.rules.specs.declared.answer.Answer.{Answer}
use Rattle.rules.specs.declared.call.Call.{Call}
use Rattle.rules.specs.declared.call.Call.TheVariants.{Macro, Tick, Coil}
use Rattle.rules.specs.State.{Setup, State, Station, running}
use Rattle.rules.specs.Starts.{started_tasks}
use Rattle.rules.specs.Tables.{ticked, tick_events}
use Rattle.rules.specs.Effects.{Effect, telling, starting, obeyed}
use Rattle.rules.specs.Refusals.{Step, settled, Check, checks}

-- what an obeyed call does
abbrev pub effect : Setup → State → Call → Effect
effect b s (Macro m) = obeyed b s (running s.tasks) m
effect b s Tick = telling (ticked s) (tick_events s)
effect b s (Coil t) = starting s t None

-- the first cause that applies, or else what is done
abbrev pub answered : List Check → Step → Step
answered [] done = done
answered (c ∷ cs) done = cond c.applies c.back (answered cs done)

-- a call with a sheet of so many records
abbrev pub called : Setup → State → Call → ℕ → Step
called b s c room = answered (checks b s c room) (settled s Done (effect b s c))

-- What comes back is k: the station after it, the answer, and the sheet, which has the events told at its front and
-- behind them what it held.
pub record Comes (k : Step) (before : Station) (given : List Event) (after : Station) (a : Answer) (left : List Event) : Type 0 where
  pub setup : after.setup ≡ before.setup
  pub state : after.state ≡ k.state
  pub answer : a ≡ record { code = k.code; told = length k.told; factor = k.factor }
  pub sheet : left ≡ written k.told given

-- what a caller sees of a call
abbrev pub Performed : Station → Call → List Event → Station → Answer → List Event → Type 0
Performed before c given after a left = Comes (called before.setup before.state c (length given)) before given after a left

-- a station just powered up: nothing set, and the clock at 0
abbrev pub started : Setup → State
started b = record { tasks = started_tasks b.written; timers = []; wakes = []; clock = 0 }
