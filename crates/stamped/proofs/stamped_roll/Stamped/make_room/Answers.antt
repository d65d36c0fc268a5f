use Rattle.std.proofs.Common.{ltb, length, sym, ◌∙◌, arith}
use Rattle.std.proofs.lemmas.Bool.{cond-false, le-ltb}
use Rattle.stamped.specs.Slots.{listed}
use Rattle.stamped.proofs.stamped_roll.Stamped.make_room.Goals as goal

pub returns-then-used_up : goal.returns-then-used_up
returns-then-used_up c =
    let s = c.args.self.now in
    let few = c.renumber.ensures.small in
    record {
      next = c.renumber.ensures.next ∙ sym (cond-false (ltb s.next 65536) s.next (length (listed s.slots s.next)) (le-ltb s.next 65536 (omega arith)));
      room = omega arith;
      same = c.renumber.ensures.same;
    }
