-- What every public call of a live station promises.
use Rattle.std.specs.Prelude.{List}
use Rattle.sheet.specs.declared.event.Event.{Event}
use Rattle.rules.specs.declared.answer.Answer.{Answer}
use Rattle.rules.specs.declared.call.Call.{Call}
use Rattle.rules.specs.State.{Station}
use Rattle.rules.specs.Calls.{Performed}
use Rattle.laws.specs.Histories.{seen as witnessed}
use Rattle.laws.specs.Runs.{Lawful}

-- Station, answer and sheet are what the rule of the call makes of them, and the laws are handed on: for every history
-- that led to the station, the history with this call leads on, and the laws hold of it.
pub record Makes (before : Station) (call : Call) (given : List Event) (after : Station) (a : Answer) (left : List Event) : Type 0 where
  pub performed : Performed before call given after a left
  pub lawful : Lawful before.setup before.state (witnessed call given a left) after.state
