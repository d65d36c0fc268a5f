use Rattle.std.proofs.Common.{◌≡◌}
use Rattle.lever.specs.Searches.{roused}
use Rattle.lever.proofs.search.rouse.Given as goal

abbrev pub invariant-loop-task : goal.invariant-loop-task
invariant-loop-task g l = roused l.task-iterator.iter.rest.now (g.R.Roll.meaning l.roll) ≡ roused l.slept (g.R.Roll.meaning l.initial.roll)
