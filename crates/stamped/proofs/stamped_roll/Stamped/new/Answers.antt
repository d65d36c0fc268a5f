use Rattle.std.proofs.Common.{refl, arith}
use Rattle.stamped.specs.Writes.{good_new}
use Rattle.stamped.proofs.stamped_roll.Stamped.new.Goals as goal

pub invariant_of-result : goal.invariant_of-result
invariant_of-result c = record { whole = refl; room = omega arith; apart = (λ k. omega arith); good = (λ t. good_new 0 128 t t) }
