use Rattle.std.proofs.Common.{rules, arith, ◌≡◌, false, length, refl}
use Rattle.tasks.proofs.Records.{factor_put}
use Rattle.tasks.proofs.task_table.TaskTable.take_factor.Goals as goal

pub returns-in-Some-clause-state : goal.returns-in-Some-clause-state
returns-in-Some-clause-state g c =
    let xs = c.args.self.now.records in
    let n : length xs ≡ 128 = search rules in
    rw (← c.get.ensures.value) (factor_put g.R.Roll.meaning c.args.self.now.roll xs c.get.result _ _ c.in-Some.factor false (omega (arith, n, c.get.ensures.range)) refl refl c.remove.ensures)
