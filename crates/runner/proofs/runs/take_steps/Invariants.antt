use Rattle.std.proofs.Common.{◌≡◌}
use Rattle.runner.specs.Listing.{progress_after, step_lines}
use Rattle.runner.specs.Views.{progress_in}
use Rattle.runner.specs.Sinks.{Took}
use Rattle.runner.proofs.runs.take_steps.Given as goal

abbrev pub invariant-loop-done : goal.invariant-loop-done
invariant-loop-done g l = record {
  progress : progress_in g.R.Roll.meaning g.R.Roll.LEVER l.scripted ≡ progress_after g.R.Roll.LEVER l.book.bytes.now l.done;
  lines : Took g.S.Sink.state g.S.Sink.took l.initial.out (step_lines g.R.Roll.LEVER l.book.bytes.now l.done) l.out;
}
