use Rattle.table.proofs.Counts.{keeps_time}
use Rattle.table.proofs.times.timers_keep_time.Goals as goal

pub returns : goal.returns
returns c = keeps_time
