use Rattle.std.proofs.Common.{◌<◌, length, arith, rules}
use Rattle.table.proofs.Beats.{going_split, going_more, fired_more, told_more, writing_some, writing_same}
use Rattle.table.proofs.row.beat.Goals as goal
use Rattle.table.proofs.row.beat.Goals.{in-Some, in_default}

pub loop-place-preserved : goal.loop-place-preserved
loop-place-preserved g c =
    let live = g.E.TableEntry.live in
    let fires = g.E.TableEntry.fires c.args.beat in
    let fired = g.T.Target.fired in
    let tells = g.T.Target.tells in
    let s = g.T.Target.seen c.args.target.now in
    let so = c.loop-place.invariant in
    let lt : c.loop-place.place-index < length c.loop-place.places = omega arith in
    let d = c.place-item.result in
    let split = going_split so.going lt d in
    let going = going_more so.going lt d c.strike.new.place c.strike.ensures.place in
    let on = fired_more fired tells fires s _ _ _ _ _ split so.fired c.strike.ensures.target in
    let more = told_more fired tells fires s _ _ _ _ _ split so.fired c.strike.ensures.event in
    elim c.match-strike.branch [
      | in-Some w ↦ simp (w.sheet-is, w.told-is) record {
        going = going;
        fired = on;
        writing = writing_some so.writing (search rules) c.strike.result more w.in-Some.event w.in-Some.is;
        within = omega arith;
      }
      | in_default w ↦ simp (w.sheet-is, w.told-is) record {
        going = going;
        fired = on;
        writing = writing_same so.writing c.strike.result more w.in_default.is;
        within = omega arith;
      }
    ]
