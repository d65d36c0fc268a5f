use Rattle.std.proofs.Common.{◌<◌, length, get_or, sym, ap, ◌∙◌, add-zero, arith}
use Rattle.table.specs.Rows.{entries}
use Rattle.table.proofs.Beats.{going_split, going_more, going_all}
use Rattle.table.proofs.Removes.{taken_out, kept_in, joined_drop, counted_more}
use Rattle.table.proofs.row.remove.Goals as goal
use Rattle.table.proofs.row.remove.Goals.{then-takes, else-takes}

pub loop-place-preserved : goal.loop-place-preserved
loop-place-preserved g c =
    let live = g.E.TableEntry.live in
    let m = g.E.TableEntry.chosen c.args.by in
    let so = c.loop-place.invariant in
    let lt : c.loop-place.place-index < length c.loop-place.places = omega arith in
    let d = c.place-item.result in
    let p = get_or c.loop-place.places c.loop-place.place-index d in
    let split = going_split so.going lt d in
    elim c.if-takes.branch [
      | then-takes w ↦
          let free = ap live w.free.ensures ∙ g.met.E.TableEntry.freed in
          let h = taken_out live m w.free.result free p w.if-takes.ensures in
          simp (w.places-is, w.count-is) record { going = going_more so.going lt d w.free.result h.0; counted = counted_more m _ _ _ _ 1 split so.counted h.1; within = omega arith }
      | else-takes w ↦
          let h = kept_in live m p w.if-takes.ensures in
          simp (w.places-is, w.count-is) record { going = going_more so.going lt d p h.0; counted = sym (add-zero c.loop-place.count) ∙ counted_more m _ _ _ _ 0 split so.counted h.1; within = omega arith }
    ]

pub returns-clause-entries : goal.returns-clause-entries
returns-clause-entries g c =
    going_all c.loop-place.invariant.going (omega arith) ∙ joined_drop (g.E.TableEntry.chosen c.args.by) (entries g.E.TableEntry.live c.args.places.now)
