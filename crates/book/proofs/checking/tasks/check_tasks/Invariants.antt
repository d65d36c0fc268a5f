use Rattle.std.proofs.Common.{◌≡◌, ℕ, ◌<◌, false}
use Rattle.book.specs.Verdict.{bad_task}
use Rattle.book.proofs.checking.tasks.check_tasks.Given as goal

abbrev pub invariant-loop-i : goal.invariant-loop-i
invariant-loop-i l = (k : ℕ) → k < l.i → bad_task l.rows.bytes.now l.rows.layout k ≡ false
