use Rattle.table.proofs.Rings.{wakes_on}
use Rattle.table.proofs.times.wakes_keep_their_cycle.Goals as goal

pub returns : goal.returns
returns c = wakes_on
