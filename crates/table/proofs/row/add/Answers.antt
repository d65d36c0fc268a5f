use Rattle.std.proofs.Common.{◌≡◌, ◌-◌, false, not, length, get_or, set, sym, ap, ◌∙◌, arith, rules, tests}
use borrow.Rule.Slice.PartMut.{put_mid}
use Rattle.std.proofs.lemmas.Grind.{common_steps}
use Rattle.std.proofs.lemmas.List.Quantifiers.{position-Some}
use Rattle.std.proofs.lemmas.Slice.{put_mid-rotated}
use Rattle.table.specs.Rows.{entries}
use Rattle.table.proofs.Adds.{room_left, added_last}
use Rattle.table.proofs.row.add.Goals as goal

pub returns : goal.returns
returns g c =
    let live = g.E.TableEntry.live in
    let xs = c.args.places.now in
    let i = c.in_ok-free.free in
    let p = g.E.TableEntry.place c.args.entry in
    let at = position-Some (λ p. not (live p)) xs i p (sym c.first_free.ensures ∙ c.in_ok-free.ensures.ok_part) in
    let free : live (get_or xs i p) ≡ false = search (rules, tests) in
    let room = room_left live xs i p at.0 free in
    let ys = put_mid i (length xs - i) xs c.rotate_left.new.self in
    let rotated = put_mid-rotated i (length xs - i) xs c.rotate_left.new.self p at.0 (omega arith) c.rotate_left.ensures.after in
    let there = ap (λ q. entries live (set ys (length ys - 1) q)) c.to_place.ensures ∙ added_last live xs ys i p p at.0 free (g.met.E.TableEntry.stands c.args.entry) rotated in
    record { room = sym room; entries = there; taken = grind (arith, common_steps) }
