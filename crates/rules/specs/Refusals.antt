-- The table of refusals: for each call its causes, in the order in which they are looked at, and what comes back.
use Rattle.std.specs.Prelude.{ℕ, Bool, cond, not, ◌&&◌, List, [], ◌∷◌, ◌++◌, ◌==◌, nat_lt}
use Rattle.sheet.specs.declared.event.Event.{Event}
use Rattle.sheet.specs.declared.event.Kind.TheVariants.{Missed, Runs}
use Rattle.sheet.specs.Events.{event}
use Rattle.rules.specs.declared.answer.Code.{Code}
use Rattle.rules.specs.declared.answer.Code.TheVariants.{ShortSheet, Idle, FieldRange, CoilRange, NotRegistered, NoLever, Dormant, HoldStands, TwoStarts, TableFull, IsReleased, FactorSet, NothingSet}
use Rattle.rules.specs.declared.call.Call.{Call}
use Rattle.rules.specs.declared.call.Call.TheVariants.{Macro as Issues, Tick, Coil}
use Rattle.rules.specs.declared.call.Macro.{Macro}
use Rattle.rules.specs.declared.call.Macro.TheVariants.{Rleas, Queue, Abort, Delay, Timer, Ctime, Chap, Sfact, Gfact, Susp, Rsum, Wake, Cwake, Stime, Exit}
use Rattle.rules.specs.State.{Setup, State, running}
use Rattle.rules.specs.Starts.{room_for}
use Rattle.rules.specs.Tables.{timers_full, wakes_full, no_timer, no_wake}
use Rattle.rules.specs.Fields.{least_sheet, task_field, in_range}
use Rattle.rules.specs.Effects.{Effect, cutting}

-- what comes back from a call
pub record Step : Type 0 where
  pub state : State
  pub code : Code
  pub told : List Event
  pub factor : ℕ

-- `runs` is told last, when the processor's task has changed or the start that had it has finished
abbrev pub turn : ℕ → Bool → ℕ → List Event
turn was over is = cond (was == is && not over) [] (event Runs is ∷ [])

abbrev pub settled : State → Code → Effect → Step
settled s k e = record {
  state = e.state;
  code = k;
  told = e.told ++ turn (running s.tasks) e.over (running e.state.tasks);
  factor = e.factor;
}

-- a call turned down leaves the station as it was, and tells nothing
abbrev pub refused : State → Code → Step
refused s k = record { state = s; code = k; told = []; factor = 0 }

-- a cause: whether it applies, and what comes back then
pub record Check : Type 0 where
  pub applies : Bool
  pub back : Step

abbrev pub check : Bool → Step → Check
check b k = record { applies = b; back = k }

module _ (b : Setup) (s : State) where
  abbrev pub short : ℕ → Check
  short room = check (nat_lt room least_sheet) (refused s ShortSheet)

  abbrev pub idle : Check
  idle = check (running s.tasks == 0) (refused s Idle)

  -- the issuer's starts are cut, as by an abort
  abbrev pub bad_field : Macro → Check
  bad_field m = check (not (in_range m)) (settled s FieldRange (cutting b s (running s.tasks) (running s.tasks)))

  abbrev pub bad_coil : ℕ → Check
  bad_coil t = check (not (task_field t)) (refused s CoilRange)

  abbrev pub unregistered : ℕ → Check
  unregistered t = check (not (b.registered t)) (refused s NotRegistered)

  abbrev pub leverless : Check
  leverless = check (not b.lever) (refused s NoLever)

  abbrev pub dormant : ℕ → Check
  dormant t = check (not (s.tasks.released t)) (refused s Dormant)

  abbrev pub held : ℕ → Check
  held t = check (s.tasks.roll.held t) (refused s HoldStands)

  abbrev pub not_held : ℕ → Check
  not_held t = check (not (s.tasks.roll.held t)) (refused s HoldStands)

  -- the start that is turned away is told as missed
  abbrev pub two_starts : ℕ → Check
  two_starts t = check (not (room_for s.tasks t)) (record { state = s; code = TwoStarts; told = event Missed t ∷ []; factor = 0 })

  abbrev pub no_place : Bool → Check
  no_place full = check full (refused s TableFull)

  abbrev pub released : ℕ → Check
  released t = check (s.tasks.released t) (refused s IsReleased)

  abbrev pub factor_set : ℕ → ℕ → Check
  factor_set t x = check (s.tasks.factors t x) (refused s FactorSet)

  abbrev pub nothing_set : Bool → Check
  nothing_set none = check none (refused s NothingSet)

  abbrev pub macro_checks : Macro → List Check
  macro_checks (Rleas t) = unregistered t ∷ (released t ∷ [])
  macro_checks (Queue t x) = unregistered t ∷ (dormant t ∷ (two_starts t ∷ []))
  macro_checks (Abort t) = []
  macro_checks (Delay n) = no_place (timers_full s) ∷ []
  macro_checks (Timer t n c x) = unregistered t ∷ (no_place (timers_full s) ∷ [])
  macro_checks (Ctime t x) = nothing_set (no_timer s t x) ∷ []
  macro_checks (Chap t l) = unregistered t ∷ (dormant t ∷ [])
  macro_checks (Sfact t x) = unregistered t ∷ (dormant t ∷ (factor_set t x ∷ []))
  macro_checks Gfact = []
  macro_checks (Susp t) = unregistered t ∷ (leverless ∷ (dormant t ∷ (held t ∷ [])))
  macro_checks (Rsum t) = unregistered t ∷ (leverless ∷ (dormant t ∷ (not_held t ∷ [])))
  macro_checks (Wake t x n c) = unregistered t ∷ (no_place (wakes_full s) ∷ [])
  macro_checks (Cwake t x) = nothing_set (no_wake s t x) ∷ []
  macro_checks (Stime n) = []
  macro_checks Exit = []

  abbrev pub checks : Call → ℕ → List Check
  checks (Issues m) room = short room ∷ (idle ∷ (bad_field m ∷ macro_checks m))
  checks Tick room = short room ∷ []
  checks (Coil t) room = short room ∷ (bad_coil t ∷ (unregistered t ∷ (dormant t ∷ (two_starts t ∷ []))))
