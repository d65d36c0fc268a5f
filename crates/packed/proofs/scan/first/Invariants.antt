use Rattle.std.proofs.Common.{◌≡◌, true, false, length, drop, replicate, None}
use Rattle.roll.specs.Entries.{all_good?}
use Rattle.packed.proofs.Walks.{walk}
use Rattle.packed.proofs.scan.first.Given as goal

abbrev pub invariant-loop-e : goal.invariant-loop-e
invariant-loop-e l = (walk l.seen l.best (drop l.e-index l.es) ≡ walk (replicate 128 false) None l.es) × (all_good? (drop l.e-index l.es) ≡ true) × (length l.seen ≡ 128)
