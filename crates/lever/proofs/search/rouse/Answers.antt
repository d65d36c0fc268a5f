use Rattle.std.proofs.Common.{sym, ap, ◌∙◌}
use Rattle.std.proofs.lemmas.List.{nil_from_length}
use Rattle.lever.specs.Searches.{roused}
use Rattle.lever.proofs.Turns.{roused_push}
use Rattle.lever.proofs.search.rouse.Goals as goal

pub loop-task-preserved : goal.loop-task-preserved
loop-task-preserved g c =
    let rest = c.next.new.self.iter.rest.now in
    let m = g.R.Roll.meaning c.loop-task.roll in
    let t = c.in-Some.task.now in
    ap (roused rest) c.rouse.ensures.after ∙ sym (roused_push rest t m) ∙ ap (λ l. roused l m) (sym c.in-Some.ensures.steps) ∙ c.loop-task.invariant

pub returns : goal.returns
returns g c =
    let m = g.R.Roll.meaning c.loop-task.roll in
    let none_left = nil_from_length c.loop-task.task-iterator.iter.rest.now c.in-None.ensures.steps.0 in
    ap (λ l. roused l m) (sym none_left) ∙ c.loop-task.invariant
