use Rattle.std.proofs.Common.{arith}
use Rattle.book.proofs.Held.{framed_held, script_held}
use Rattle.book.proofs.reader.Book.row.Goals as goal

pub overflow_add-script : goal.overflow_add-script
overflow_add-script c = omega (arith, script_held c.args.self c.args.task c.in_ok-script.script c.in_ok-script.ensures)

pub slice_bounds-result-end : goal.slice_bounds-result-end
slice_bounds-result-end c =
    omega (arith, (framed_held c.args.self).instructions, script_held c.args.self c.args.task c.in_ok-script.script c.in_ok-script.ensures)
