use Rattle.stamped.specs.Candidates.{Least}
use Rattle.stamped.proofs.stamped_roll.methods.StampedRoll.first.Given as goal

abbrev pub invariant-loop-task : goal.invariant-loop-task
invariant-loop-task l = Least l.slot-items l.task l.best
