use Rattle.std.proofs.Common.{sym, ◌∙◌, arith}
use Rattle.tasks.proofs.Factors.{smallest-lowest}
use Rattle.tasks.proofs.factor_set.FactorSet.smallest.Goals as goal

pub returns : goal.returns
returns c = c.new.ensures ∙ sym (smallest-lowest c.args.self.bits (omega (arith, c.args.self.seventeen)))
