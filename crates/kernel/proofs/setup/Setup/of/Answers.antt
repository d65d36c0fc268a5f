use Rattle.std.proofs.Common.{None, refl, ◌∙◌, arith}
use Rattle.std.proofs.lemmas.List.{length-set}
use Rattle.kernel.specs.Views.{row_in}
use Rattle.kernel.proofs.Rows.{agrees_more, agrees_at, row_past, row_zero, rows_registered, rows_written}
use Rattle.kernel.proofs.setup.Setup.of.Goals as goal

pub loop-task-init : goal.loop-task-init
loop-task-init c = ((λ k lt. absurd (omega arith)), refl)

pub loop-task-preserved : goal.loop-task-preserved
loop-task-preserved c =
    let i = c.loop-task.invariant in
    (agrees_more c.loop-task.rows None (row_in c.args.book.bytes.now) c.loop-task.task c.row_of.result (omega (arith, i.1)) c.row_of.ensures i.0, length-set c.loop-task.rows c.loop-task.task c.row_of.result ∙ i.1)

pub invariant_of-result : goal.invariant_of-result
invariant_of-result c =
    let i = c.loop-task.invariant in
    record { sized = i.1; nobody = i.0 0 (omega arith) ∙ row_zero c.args.book.bytes.now c.args.book.sound }

pub returns : goal.returns
returns c =
    let i = c.loop-task.invariant in
    let b = c.args.book.bytes.now in
    let at = agrees_at c.loop-task.rows None (row_in b) 128 i.1 (λ k lt. i.0 k (omega arith)) (row_past b c.args.book.sound) in
    record { registered = rows_registered b _ at; written = rows_written b _ at }
