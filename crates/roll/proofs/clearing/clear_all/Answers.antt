use Rattle.std.proofs.Common.{◌≡◌, true, ltb, arith}
use Rattle.std.proofs.lemmas.Bool.{lt-ltb, and_from}
use Rattle.roll.specs.Ranges.{task?}
use Rattle.roll.proofs.Emptied.{EmptyBelow, empty_none, empty_more, empty_all}
use Rattle.roll.proofs.clearing.clear_all.Goals as goal

pub loop-task-init : goal.loop-task-init
loop-task-init g c = empty_none (g.R.Roll.meaning c.args.roll.now) (g.met.R.Roll.sound c.args.roll.now)

pub loop-task-preserved : goal.loop-task-preserved
loop-task-preserved g c =
    let M = g.R.Roll.meaning in
    let t = c.loop-task.task in
    let p : task? t ≡ true = and_from (ltb 0 t) (ltb t 128) (lt-ltb 0 t (omega arith)) (lt-ltb t 128 (omega arith)) in
    empty_more g.R.Roll.LEVER t (M c.loop-task.roll) (M c.clear.new.self) (M c.unhold.new.self) (g.met.R.Roll.free c.loop-task.roll) p c.clear.ensures.after c.unhold.ensures.after c.loop-task.invariant

pub returns : goal.returns
returns g c =
    let roll = c.loop-task.roll in
    let m = g.R.Roll.meaning roll in
    let below : EmptyBelow 128 m = (λ u lt. c.loop-task.invariant u (omega arith)) in
    empty_all m (g.met.R.Roll.sound roll) below
