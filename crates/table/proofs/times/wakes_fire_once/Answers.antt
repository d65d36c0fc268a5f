use Rattle.table.proofs.Rings.{wakes_once}
use Rattle.table.proofs.times.wakes_fire_once.Goals as goal

pub returns : goal.returns
returns c = wakes_once
