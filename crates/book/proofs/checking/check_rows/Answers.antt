use Rattle.book.specs.Verdict.{task_tests, instruction_tests, row_tests}
use Rattle.book.proofs.Order.{at_exit, rows_tasks, rows_instructions, tells_first, tells_second}
use Rattle.book.proofs.checking.check_rows.Goals as goal

pub returns-in_err-check_tasks : goal.returns-in_err-check_tasks
returns-in_err-check_tasks c =
    at_exit (row_tests c.args.rows.bytes.now c.args.rows.layout) c.from_residual.result _ c.from_residual.ensures.1
    (rows_tasks c.args.rows.bytes.now c.args.rows.layout _ c.args.rows.framed c.if-rows.true c.in_err-check_tasks.ensures)

pub returns-in_err-check_instructions : goal.returns-in_err-check_instructions
returns-in_err-check_instructions c =
    at_exit (row_tests c.args.rows.bytes.now c.args.rows.layout) c.from_residual-in_err-check_instructions.result _ c.from_residual-in_err-check_instructions.ensures.1
    (rows_instructions c.args.rows.bytes.now c.args.rows.layout _ c.args.rows.framed c.if-rows.false c.in_err-check_instructions.ensures)

pub returns-in_ok-check_tasks : goal.returns-in_ok-check_tasks
returns-in_ok-check_tasks c =
    tells_second (task_tests c.args.rows.bytes.now c.args.rows.layout) (instruction_tests c.args.rows.bytes.now c.args.rows.layout) _ c.in_ok-check_tasks.ensures c.check_instructions.ensures

pub returns-in_ok-check_instructions : goal.returns-in_ok-check_instructions
returns-in_ok-check_instructions c =
    tells_first (task_tests c.args.rows.bytes.now c.args.rows.layout) (instruction_tests c.args.rows.bytes.now c.args.rows.layout) _ c.in_ok-check_instructions.ensures c.check_tasks-else-rows.ensures
