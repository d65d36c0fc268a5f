use Rattle.std.proofs.Common.{arith, rules}
use Rattle.tasks.proofs.Factors.{set_bits_with, below_with, below_without}
use Rattle.tasks.proofs.factor_set.FactorSet.insert.Goals as goal

pub invariant_of-self : goal.invariant_of-self
invariant_of-self c = search (rules, below_with, below_without)

pub returns : goal.returns
returns c = rw (← c.get.ensures.value) (set_bits_with c.args.self.now.bits c.get.result (omega (arith, c.get.ensures.range)))
