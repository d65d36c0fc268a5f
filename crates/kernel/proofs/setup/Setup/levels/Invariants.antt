use Rattle.std.proofs.Common.{◌≡◌, length}
use Rattle.kernel.specs.Views.{written_by}
use Rattle.kernel.proofs.Rows.{Agrees}
use Rattle.kernel.proofs.setup.Setup.levels.Given as goal

abbrev pub invariant-loop-task : goal.invariant-loop-task
invariant-loop-task l = Agrees l.levels 0 (written_by l.self) l.task × (length l.levels ≡ 128)
