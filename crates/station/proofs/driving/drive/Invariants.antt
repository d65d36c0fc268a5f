use Rattle.std.proofs.Common.{◌≡◌, take, drop}
use Rattle.laws.specs.Runs.{Ran}
use Rattle.station.specs.Views.{seen, setup_in}
use Rattle.station.proofs.driving.drive.Given as goal

abbrev pub invariant-loop-i : goal.invariant-loop-i
invariant-loop-i g l =
    Ran (seen g.R.Roll.meaning g.R.Roll.LEVER l.live).setup (take l.i l.calls) (take l.i l.answers) (seen g.R.Roll.meaning g.R.Roll.LEVER l.live).state
    × ((seen g.R.Roll.meaning g.R.Roll.LEVER l.live).setup ≡ setup_in g.R.Roll.LEVER l.book.bytes.now)
    × (drop l.i l.answers ≡ drop l.i l.initial.answers)
