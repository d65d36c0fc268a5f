use Rattle.std.proofs.Common.{◌≡◌, drop}
use Rattle.runner.specs.Scripts.{set_back_by}
use Rattle.runner.specs.Views.{positions_in}
use Rattle.runner.proofs.positions.Positions.set_back.Given as goal

abbrev pub invariant-loop-event : goal.invariant-loop-event
invariant-loop-event l = set_back_by (positions_in l.self) (drop l.event-index l.events) ≡ set_back_by (positions_in l.initial.self) l.events
