use Rattle.std.proofs.Common.{◌≡◌, None, length}
use Rattle.kernel.specs.Views.{row_in}
use Rattle.kernel.proofs.Rows.{Agrees}
use Rattle.kernel.proofs.setup.Setup.of.Given as goal

abbrev pub invariant-loop-task : goal.invariant-loop-task
invariant-loop-task l = Agrees l.rows None (row_in l.book.bytes.now) l.task × (length l.rows ≡ 128)
