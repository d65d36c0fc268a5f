use Rattle.std.proofs.Common.{◌≡◌, ◌+◌, drop}
use Rattle.roll.specs.Entries.{count_of}
use Rattle.packed.proofs.scan.tally.Given as goal

abbrev pub invariant-loop-e : goal.invariant-loop-e
invariant-loop-e l = l.n + count_of l.task (drop l.e-index l.es) ≡ count_of l.task l.es
