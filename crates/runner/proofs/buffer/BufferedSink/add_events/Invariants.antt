use Rattle.std.proofs.Common.{take}
use Rattle.runner.specs.Lines.{lines_of_events}
use Rattle.runner.specs.Sinks.{Took}
use Rattle.runner.proofs.buffer.BufferedSink.add_events.Given as goal

abbrev pub invariant-loop-event : goal.invariant-loop-event
invariant-loop-event g l = Took g.S.Sink.state g.S.Sink.took l.initial.self (lines_of_events l.step (take l.event-index l.events)) l.self
