use Rattle.std.proofs.Common.{rules, arith, ◌≡◌, true, length, refl}
use Rattle.tasks.proofs.Records.{factor_put}
use Rattle.tasks.proofs.task_table.TaskTable.set_factor.Goals as goal

pub returns : goal.returns
returns g c =
    let xs = c.args.self.now.records in
    let n : length xs ≡ 128 = search rules in
    rw (← c.get.ensures.value) (factor_put g.R.Roll.meaning c.args.self.now.roll xs c.get.result _ _ c.args.factor true (omega (arith, n, c.get.ensures.range)) refl refl c.insert.ensures)
