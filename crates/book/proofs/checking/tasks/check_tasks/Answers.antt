use Rattle.std.proofs.Common.{arith, below_more}
use Rattle.std.proofs.lemmas.Bool.{not-false}
use Rattle.book.specs.Verdict.{task_tests}
use Rattle.book.proofs.Found.{ok_passes, and_err, and_ok}
use Rattle.book.proofs.Order.{at_exit, at_row_exit}
use Rattle.book.proofs.TaskFaults.{tasks_head, tasks_later, tasks_none}
use Rattle.book.proofs.checking.tasks.check_tasks.Goals as goal

pub returns-in_err-and : goal.returns-in_err-and
returns-in_err-and c =
    at_exit (task_tests c.args.rows.bytes.now c.args.rows.layout) c.from_residual.result _ c.from_residual.ensures.1
    (tasks_head c.args.rows.bytes.now c.args.rows.layout _ c.args.rows.framed.some
    (and_err _ _ _ _ _ _ _ _ _ c.check_task-first.ensures c.check_task_one-task_one.ensures c.in_err-and.ensures))

pub returns-in_err-check_task : goal.returns-in_err-check_task
returns-in_err-check_task c =
    at_row_exit (task_tests c.args.rows.bytes.now c.args.rows.layout) c.from_residual-in_err-check_task.result _ _ _ _ c.from_residual-in_err-check_task.ensures.1
    c.in_err-check_task.ensures
    (tasks_later c.args.rows.bytes.now c.args.rows.layout c.loop-i.i c.loop-i-test.true c.loop-i.invariant
    (not-false _ (and_ok _ _ _ _ _ _ _ _ _ c.check_task-first.ensures c.check_task_one-task_one.ensures c.in_ok-and.ensures).1))

pub loop-i-preserved : goal.loop-i-preserved
loop-i-preserved c = below_more _ _ c.loop-i.invariant (ok_passes _ _ _ _ c.in_ok-check_task.ensures)

pub returns : goal.returns
returns c =
    tasks_none _ c.args.rows.layout (λ k h. c.loop-i.invariant k (omega arith))
    (not-false _ (and_ok _ _ _ _ _ _ _ _ _ c.check_task-first.ensures c.check_task_one-task_one.ensures c.in_ok-and.ensures).1)
