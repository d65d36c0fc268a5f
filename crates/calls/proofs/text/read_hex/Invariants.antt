-- Each turn takes some of the line.
use Rattle.std.proofs.Common.{length}
use Rattle.calls.proofs.text.read_hex.Given as goal

abbrev pub decreases-loop-rest : goal.decreases-loop-rest
decreases-loop-rest l = length l.rest
