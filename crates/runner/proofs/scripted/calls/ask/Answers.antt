use Rattle.station.specs.Views.{seen}
use Rattle.runner.specs.Views.{station_in}
use Rattle.runner.proofs.Asks.{asked_station, asked_told, asked_factor}
use Rattle.runner.proofs.scripted.calls.ask.Goals as goal

pub returns : goal.returns
unfolding station_in
returns g c =
    let before = seen g.R.Roll.meaning g.R.Roll.LEVER c.args.station.now in
    let done = seen g.R.Roll.meaning g.R.Roll.LEVER c.perform-answer.new.self in
    let answer = c.perform-answer.result in
    let left = c.perform-answer.new.sheet in
    let p = c.perform-answer.ensures.performed in
    record {
      station = asked_station before done c.args.sheet.now answer left c.args.call c.told-sheet p;
      told = asked_told before done c.args.sheet.now answer left c.args.call c.told-sheet p;
      factor = asked_factor before done c.args.sheet.now answer left c.args.call c.told-sheet p;
    }
