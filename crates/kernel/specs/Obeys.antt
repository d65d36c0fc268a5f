-- What is left to say of a call once its sheet is found long enough: what it did, before the turn is told, or what it
-- is answered where it is turned down.
use Rattle.std.specs.Prelude.{◌≡◌, ℕ, ◌≤◌, Bool, true, false, not, List, [], ◌∷◌, length, Option, Ok, Err, Result}
use Rattle.sheet.specs.declared.event.Event.{Event}
use Rattle.sheet.specs.Sheets.{written}
use Rattle.rules.specs.declared.answer.Answer.{Answer}
use Rattle.rules.specs.declared.answer.Code.{Code}
use Rattle.rules.specs.declared.answer.Code.TheVariants.{Done}
use Rattle.rules.specs.declared.call.Call.{Call}
use Rattle.rules.specs.declared.call.Call.TheVariants.{Macro as Issued, Tick, Coil}
use Rattle.rules.specs.declared.call.Macro.{Macro}
use Rattle.rules.specs.State.{Setup, State, Station}
use Rattle.rules.specs.Fields.{task_field}
use Rattle.rules.specs.Effects.{Effect, starting, obeyed}
use Rattle.rules.specs.Refusals.{Step, settled, Check, idle, bad_field, bad_coil, unregistered, dormant, two_starts, macro_checks}
use Rattle.rules.specs.Calls.{answered, effect, Comes}
use Rattle.kernel.specs.declared.effect.Effect.{Effect as Made}

-- Where no other task can have the processor after the effect e, it has left all starts and holds as they were.
abbrev pub Stays : Bool → Effect → Station → Type 0
Stays true e before = Unit {0}
Stays false e before = (e.over ≡ false) × (e.state.tasks.roll ≡ before.state.tasks.roll)

-- The effect e was done: the station after it, the answer so far, and the sheet, which has the events of the effect at
-- its front and room for the turn behind them.
pub record Did (code : Code) (e : Effect) (before : Station) (given : List Event) (after : Station) (made : Made) (left : List Event) : Type 0 where
  pub setup : after.setup ≡ before.setup
  pub state : after.state ≡ e.state
  pub answer : made.answer ≡ record { code = code; told = length e.told; factor = e.factor }
  pub over : made.over ≡ e.over
  pub stays : Stays made.turning e before
  pub sheet : left ≡ written e.told given
  pub bound : made.answer.told ≤ 96

-- None of the checks applies and the effect e was done; or the first that applies says what comes back.
abbrev pub Passes : List Check → Effect → Station → List Event → Station → Result Made Answer → List Event → Type 0
Passes cs e before given after (Ok made) left = (settled before.state Done e ≡ answered cs (settled before.state Done e)) × Did Done e before given after made left
Passes cs e before given after (Err a) left = Comes (answered cs (settled before.state Done e)) before given after a left

-- What comes back is k, once the turn is told of what was done.
abbrev pub Brings : Step → Station → List Event → Station → Result Made Answer → List Event → Type 0
Brings k before given after (Ok made) left = (code : Code) × (e : Effect) × (settled before.state code e ≡ k) × Did code e before given after made left
Brings k before given after (Err a) left = Comes k before given after a left

-- a macro of the task r, once its issuer and fields have been looked at
abbrev pub Obeys : Station → ℕ → Macro → List Event → Station → Result Made Answer → List Event → Type 0
Obeys before r m = Passes (macro_checks before.setup before.state m) (obeyed before.setup before.state r m) before

-- such a macro that looks neither at its issuer nor at the sheet, so that it is said of none
abbrev pub Changes : Station → Macro → Station → Result Made Answer → Type 0
Changes before m after outcome = Obeys before 0 m [] after outcome []

abbrev pub start_checks : Setup → State → ℕ → List Check
start_checks b s t = unregistered b s t ∷ (dormant b s t ∷ (two_starts b s t ∷ []))

-- a start that is asked for
abbrev pub Begins : Station → ℕ → Option ℕ → List Event → Station → Result Made Answer → List Event → Type 0
Begins before t o = Passes (start_checks before.setup before.state t) (starting before.state t o) before

-- the checks of a call behind that of its sheet
abbrev pub later_checks : Setup → State → Call → List Check
later_checks b s (Issued m) = idle b s ∷ (bad_field b s m ∷ macro_checks b s m)
later_checks b s Tick = []
later_checks b s (Coil t) = bad_coil b s t ∷ start_checks b s t

-- what comes back from a call whose sheet is long enough
abbrev pub worked : Setup → State → Call → Step
worked b s c = answered (later_checks b s c) (settled s Done (effect b s c))

abbrev pub Works : Station → Call → List Event → Station → Result Made Answer → List Event → Type 0
Works before c = Brings (worked before.setup before.state c) before

-- a coil whose task is out of range
abbrev pub coil_out_of_range : Call → Bool
coil_out_of_range (Issued m) = false
coil_out_of_range Tick = false
coil_out_of_range (Coil t) = not (task_field t)
