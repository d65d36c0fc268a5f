use Rattle.lever.specs.Holding.{unmarked}
use Rattle.lever.proofs.holds.Holds.new.Goals as goal

pub returns : goal.returns
returns c = unmarked 128
