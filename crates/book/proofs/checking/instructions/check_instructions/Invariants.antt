use Rattle.std.proofs.Common.{◌≡◌, ℕ, ◌<◌, false}
use Rattle.book.specs.Verdict.{bad_instruction}
use Rattle.book.proofs.checking.instructions.check_instructions.Given as goal

abbrev pub invariant-loop-i : goal.invariant-loop-i
invariant-loop-i l = (k : ℕ) → k < l.i → bad_instruction l.rows.bytes.now l.rows.layout k ≡ false
