use Rattle.std.proofs.Common.{◌≡◌, sym, ap, ◌∙◌, subst}
use Rattle.rules.specs.State.{Station}
use Rattle.rules.specs.Calls.{started}
use Rattle.laws.specs.Histories.{Reached, Reached.on, History.powered}
use Rattle.laws.proofs.Always.{always}
use Rattle.kernel.specs.declared.kernel.Kernel.{Kernel}
use Rattle.kernel.specs.Views.{seen as seen_in}
use Rattle.kernel.proofs.Numbers.{numbered}
use Rattle.station.specs.Views.{seen, setup_in}
use Rattle.station.proofs.cold.Cold.power_up.Goals as goal

pub returns : goal.returns
returns g c =
    let v = seen g.R.Roll.meaning g.R.Roll.LEVER c.over.result in
    let b = setup_in g.R.Roll.LEVER c.args.book.bytes.now in
    let e : v ≡ record { setup = b; state = started b } = ap (λ (k : Kernel g.row.R.Denot). seen_in g.R.Roll.meaning g.R.Roll.LEVER k) c.over.ensures ∙ c.powered.ensures in
    let r : Reached v.setup powered v.state = subst (λ (x : Station). Reached x.setup powered x.state) (sym e) on in
    record {
      state = e;
      reached = r;
      laws = always v.setup (numbered c.over.result.kernel.setup) powered v.state r;
    }
