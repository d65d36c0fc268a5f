use Rattle.std.proofs.Common.{ℕ, Option, sym, ap, ◌∙◌}
use Rattle.rules.specs.State.{Tasks}
use Rattle.rules.specs.Starts.{accepted_with}
use Rattle.tasks.specs.Views.{view}
use Rattle.tasks.proofs.task_table.TaskTable.accept_with.Goals as goal

-- The factor that is set goes unnamed here, so that another than the one handed over is refused by what it is.
pub returns-in-Some : goal.returns-in-Some
returns-in-Some g c =
    let s = view g.R.Roll.meaning c.args.self.now in
    let given = ap (λ (o : Option ℕ). accepted_with s c.args.task o) (sym c.in-Some.is) in
    cc
