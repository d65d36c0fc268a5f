use Rattle.laws.proofs.Always.{named}
use Rattle.kernel.proofs.Numbers.{numbered}
use Rattle.station.specs.Views.{seen}
use Rattle.station.proofs.live.Live.first.Goals as goal

pub returns : goal.returns
returns g c =
    let v = seen g.R.Roll.meaning g.R.Roll.LEVER c.args.self.now in
    let e = c.first.ensures in
    record {
      answer = e.answer;
      same = e.same;
      within = e.within;
      named = named v.setup v.state c.first.result (numbered c.args.self.now.kernel.setup) e.answer;
    }
