use Rattle.std.proofs.Common.{ℕ, None, Option, get_or, refl, ap, ◌∙◌, arith}
use Rattle.std.specs.Prelude.{unwrap_or}
use Rattle.std.proofs.lemmas.List.{length-set, get_or_past, get_or_default}
use Rattle.kernel.specs.Views.{written_by}
use Rattle.kernel.proofs.Rows.{agrees_more, agrees_at}
use Rattle.kernel.proofs.setup.Setup.levels.Goals as goal

pub loop-task-init : goal.loop-task-init
loop-task-init c = ((λ k lt. absurd (omega arith)), refl)

pub loop-task-preserved : goal.loop-task-preserved
loop-task-preserved c =
    let i = c.loop-task.invariant in
    let s = c.args.self.now in
    let t = c.loop-task.task in
    let value =
    c.unwrap_or.ensures
    ∙ ap (λ (o : Option ℕ). unwrap_or o c.within.result) (get_or_default s.rows t c.index-self-task.result None (omega (arith, s.sized)))
    ∙ ap (unwrap_or (get_or s.rows t None)) c.within.ensures in
    (agrees_more c.loop-task.levels 0 (written_by c.args.self.now) c.loop-task.task c.unwrap_or.result (omega (arith, i.1)) value i.0, length-set c.loop-task.levels c.loop-task.task c.unwrap_or.result ∙ i.1)

pub returns : goal.returns
returns c =
    let i = c.loop-task.invariant in
    let s = c.args.self.now in
    agrees_at c.loop-task.levels 0 (written_by s) 128 i.1 (λ k lt. i.0 k (omega arith)) (λ k ge. ap (λ (o : Option ℕ). unwrap_or o 0) (get_or_past s.rows k None (omega (arith, s.sized))))
