use Rattle.std.proofs.Common.{Some, sym, ap, ◌∙◌, arith}
use Rattle.book.proofs.Clean.{task_fits}
use Rattle.kernel.specs.Views.{level_in_row}
use Rattle.kernel.proofs.setup.read.row_of.Goals as goal

pub within-requires : goal.within-requires
within-requires c =
    let found = sym c.task.ensures ∙ c.in_ok-row.was in
    (omega arith, (omega arith, (task_fits c.args.book.bytes.now c.args.task c.in_ok-row.row c.args.book.sound found).level))

pub returns : goal.returns
returns c =
    let found = sym c.task.ensures ∙ c.in_ok-row.was in
    ap Some c.within.ensures ∙ sym (ap level_in_row found)
