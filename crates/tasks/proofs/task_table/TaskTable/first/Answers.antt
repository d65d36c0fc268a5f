use Rattle.std.proofs.Common.{sym, ◌∙◌, arith}
use Rattle.roll.proofs.Firsts.{first_below}
use Rattle.tasks.proofs.task_table.TaskTable.first.Goals as goal

-- the first of a sound roll, if there is one, is a task
pub map-requires : goal.map-requires
map-requires g c x is =
    let s = c.args.self.now.roll in
    let m = g.R.Roll.meaning s in
    let w = first_below m.held m.entries x (g.met.R.Roll.sound s).0.0 (sym c.first.ensures.answer ∙ is) in
    (omega arith, (omega (arith, w.0), omega (arith, w.1)))
