use Rattle.cases.proofs.Edged.{edges}
use Rattle.cases.proofs.edges.edges_hold.Goals as goal

pub returns : goal.returns
returns c = edges
