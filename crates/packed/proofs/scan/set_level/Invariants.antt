use Rattle.std.proofs.Common.{◌≡◌, ◌++◌, map, take, drop}
use Rattle.roll.specs.Entries.{relevel}
use Rattle.packed.proofs.scan.set_level.Given as goal

abbrev pub invariant-loop-e : goal.invariant-loop-e
invariant-loop-e l = l.es ≡ map (relevel l.task l.level) (take l.e-index l.initial.es) ++ drop l.e-index l.initial.es
