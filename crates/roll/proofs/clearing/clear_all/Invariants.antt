use Rattle.roll.proofs.Emptied.{EmptyBelow}
use Rattle.roll.proofs.clearing.clear_all.Given as goal

abbrev pub invariant-loop-task : goal.invariant-loop-task
invariant-loop-task g l = EmptyBelow l.task (g.R.Roll.meaning l.roll)
