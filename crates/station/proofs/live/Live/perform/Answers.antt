use Rattle.laws.proofs.Always.{carried}
use Rattle.kernel.proofs.Numbers.{numbered}
use Rattle.station.specs.Views.{seen}
use Rattle.station.proofs.live.Live.perform.Goals as goal

pub returns : goal.returns
returns g c =
    let before = seen g.R.Roll.meaning g.R.Roll.LEVER c.args.self.now in
    let after = seen g.R.Roll.meaning g.R.Roll.LEVER (record { kernel = c.carry_out.new.self }) in
    record {
      performed = c.carry_out.ensures;
      lawful = carried before after c.args.call c.args.sheet.now c.carry_out.result c.carry_out.new.sheet (numbered c.args.self.now.kernel.setup) c.carry_out.ensures;
    }
