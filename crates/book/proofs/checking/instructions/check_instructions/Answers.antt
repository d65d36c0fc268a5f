use Rattle.std.proofs.Common.{arith, below_more}
use Rattle.book.specs.Verdict.{instruction_test, instruction_tests}
use Rattle.book.proofs.Found.{row_first, row_none, ok_passes, instruction_order}
use Rattle.book.proofs.Order.{at_row_exit}
use Rattle.book.proofs.checking.instructions.check_instructions.Goals as goal

pub returns-in_err-check_instruction : goal.returns-in_err-check_instruction
returns-in_err-check_instruction c =
    at_row_exit (instruction_tests c.args.rows.bytes.now c.args.rows.layout) c.from_residual.result _ _ _ _ c.from_residual.ensures.1
    c.in_err-check_instruction.ensures
    (row_first (instruction_test c.args.rows.bytes.now c.args.rows.layout) _ c.loop-i.i
    (λ k h. instruction_order c.args.rows.layout k c.loop-i.i h) c.loop-i-test.true c.loop-i.invariant)

pub loop-i-preserved : goal.loop-i-preserved
loop-i-preserved c = below_more _ _ c.loop-i.invariant (ok_passes _ _ _ _ c.in_ok-check_instruction.ensures)

pub returns : goal.returns
returns c = row_none (instruction_test c.args.rows.bytes.now c.args.rows.layout) _ (λ k h. c.loop-i.invariant k (omega arith))
