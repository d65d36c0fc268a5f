use Rattle.std.proofs.Common.{refl}
use Rattle.table.specs.declared.firing.Firing.TheVariants.{Start}
use Rattle.table.specs.Timers.{timer_place}
use Rattle.table.proofs.Counts.{once}
use Rattle.table.proofs.times.timers_fire_once.Goals as goal

pub returns : goal.returns
returns c task factor t h = once (timer_place task factor t 0) (Start task factor) h refl refl
