use Rattle.std.proofs.Common.{refl}
use Rattle.table.specs.declared.firing.Firing.TheVariants.{Rouse}
use Rattle.table.specs.Timers.{delay_place}
use Rattle.table.proofs.Counts.{once}
use Rattle.table.proofs.times.delays_rouse_once.Goals as goal

pub returns : goal.returns
returns c task t h = once (delay_place task t) (Rouse task) h refl refl
