use Rattle.std.proofs.lemmas.Result.{on_ok_weaker}
use Rattle.runner.specs.Lines.{bytes_of}
use Rattle.runner.specs.Views.{progress_in}
use Rattle.runner.proofs.Listed.{whole_run}
use Rattle.runner.proofs.runs.carry_out.Goals as goal

pub returns : goal.returns
returns g c =
    let steps = c.in_ok-outcome.ensures in
    let after = progress_in g.R.Roll.meaning g.R.Roll.LEVER c.take_steps-outcome.new.scripted in
    on_ok_weaker c.add.result (λ t. whole_run g.R.Roll.LEVER c.args.book.bytes.now g.met.S.Sink.joined c.stop-left.result after (bytes_of c.left_line.result)
    c.stop-left.ensures steps.progress c.left_line.ensures c.in_ok-add_events.ensures steps.lines t) c.add.ensures
