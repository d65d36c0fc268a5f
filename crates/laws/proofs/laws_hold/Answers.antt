use Rattle.laws.proofs.Always.{always}
use Rattle.laws.proofs.laws_hold.Goals as goal

pub returns : goal.returns
returns c = always
