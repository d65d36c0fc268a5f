use Rattle.std.proofs.Common.{ℕ, List, length, sym, ap, ◌∙◌, subst, arith}
use Rattle.std.proofs.lemmas.List.{length-map}
use Rattle.stamped.specs.declared.slot.Slot.{Slot}
use Rattle.stamped.specs.Slots.{listed}
use Rattle.stamped.specs.Numbers.{renumbered}
use Rattle.stamped.specs.Counts.{Orderly}
use Rattle.stamped.proofs.Renumbered.{renumbered_orderly, renumbered_listed, renumbered_count, renumbered_few}
use Rattle.stamped.specs.Tables.{orderly_of}
use Rattle.stamped.proofs.stamped_roll.Stamped.renumber.Goals as goal

pub invariant_of-self : goal.invariant_of-self
invariant_of-self c =
    let xs = c.args.self.now.slots in
    let n = c.args.self.now.next in
    let len = c.args.self.now.whole in
    let o = orderly_of c.args.self.now in
    let p = c.renumber-count.ensures.stamps in
    let q = c.renumber-count.ensures.count in
    let few = renumbered_few xs n o len in
    let r = subst (λ (l : List Slot). Orderly l c.renumber-count.result) (sym p) (subst (λ (k : ℕ). Orderly (renumbered xs) k) (sym q) (renumbered_orderly xs n o)) in
    record { whole = ap length p ∙ simp length-map len; room = omega arith; apart = r.apart; good = r.good }

pub returns : goal.returns
returns c =
    let xs = c.args.self.now.slots in
    let n = c.args.self.now.next in
    let o = orderly_of c.args.self.now in
    let p = c.renumber-count.ensures.stamps in
    let q = c.renumber-count.ensures.count in
    record {
      slots = p;
      next = q ∙ renumbered_count xs n o;
      small = let few = renumbered_few xs n o c.args.self.now.whole in omega arith;
      same = ap (λ (l : List Slot). listed l c.renumber-count.result) p ∙ ap (listed (renumbered xs)) q ∙ renumbered_listed xs n o;
    }
