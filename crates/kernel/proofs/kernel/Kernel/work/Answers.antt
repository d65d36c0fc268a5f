use Rattle.std.proofs.Common.{sym, ap, rules}
use Rattle.rules.specs.declared.answer.Code.TheVariants.{Done}
use Rattle.rules.specs.Tables.{ticked, tick_events}
use Rattle.rules.specs.Effects.{telling}
use Rattle.kernel.specs.Views.{seen}
use Rattle.kernel.specs.Obeys.{worked}
use Rattle.kernel.proofs.kernel.Kernel.work.Goals as goal

pub returns-in-Tick : goal.returns-in-Tick
returns-in-Tick g c =
    let v = seen g.R.Roll.meaning g.R.Roll.LEVER c.args.self.now in
    (Done, telling (ticked v.state) (tick_events v.state), ap (worked v.setup v.state) (sym c.in-Tick.is), search rules)
