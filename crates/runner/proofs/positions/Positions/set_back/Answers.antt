use Rattle.std.proofs.Common.{◌<◌, length, get_or, ap, ◌∙◌, arith}
use Rattle.sheet.specs.declared.event.Kind.TheVariants.{Accepted}
use Rattle.sheet.specs.Events.{event}
use Rattle.runner.specs.Views.{positions_in}
use Rattle.runner.proofs.Moves.{at_beginning, back_then, back_else, back_more}
use Rattle.runner.proofs.positions.Positions.set_back.Goals as goal
use Rattle.runner.proofs.positions.Positions.set_back.Goals.{then-finishes, else-finishes}

pub loop-event-preserved : goal.loop-event-preserved
loop-event-preserved c =
    let es = c.args.events.now in
    let i = c.loop-event.event-index in
    let e = get_or es i (event Accepted 0) in
    let ps = positions_in c.loop-event.self in
    let lt : i < length es = omega arith in
    back_more ps (positions_in c.if-finishes.self) es i lt
    (elim c.if-finishes.branch [
      | then-finishes w ↦ ap positions_in w.self-is ∙ back_then ps (positions_in w.put.new.self) e w.default.result w.if-finishes.ensures (at_beginning w.default.result w.default.ensures) w.put.ensures
      | else-finishes w ↦ ap positions_in w.self-is ∙ back_else ps e w.if-finishes.ensures
    ])
    ∙ c.loop-event.invariant
