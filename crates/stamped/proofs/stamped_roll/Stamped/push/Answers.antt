use Rattle.std.proofs.Common.{◌+◌, false, set, sym, refl, ap, ◌∙◌, subst, arith}
use Rattle.std.proofs.lemmas.List.{length-set}
use Rattle.stamped.specs.declared.slot.Slot.{Slot}
use Rattle.stamped.specs.declared.slot.Start.{Start}
use Rattle.stamped.specs.Slots.{listed}
use Rattle.stamped.specs.Tables.{orderly_of, in_range}
use Rattle.stamped.specs.Counts.{Orderly}
use Rattle.stamped.specs.Writes.{push_write}
use Rattle.stamped.proofs.stamped_roll.Stamped.push.Goals as goal

pub invariant_of-self : goal.invariant_of-self
invariant_of-self c =
    let xs = c.args.self.now.slots in
    let t = c.args.task in
    let n = c.args.self.now.next in
    let len = c.args.self.now.whole in
    let in_bounds = in_range t c.args.level c.requires.range in
    let s = orderly_of c.args.self.now in
    let x : Start = record { stamp = n; level = c.args.level; asleep = false } in
    let w = push_write n t x xs (omega arith) (omega arith) refl (omega arith) s c.requires.few in
    let r = subst (λ (y : Slot). Orderly (set xs t y) (n + 1)) (sym c.pushed.ensures) w.1 in
    record { whole = length-set xs t c.pushed.result ∙ len; room = omega arith; apart = r.apart; good = r.good }

pub returns : goal.returns
returns c =
    let xs = c.args.self.now.slots in
    let t = c.args.task in
    let n = c.args.self.now.next in
    let len = c.args.self.now.whole in
    let in_bounds = in_range t c.args.level c.requires.range in
    let s = orderly_of c.args.self.now in
    let x : Start = record { stamp = n; level = c.args.level; asleep = false } in
    let w = push_write n t x xs (omega arith) (omega arith) refl (omega arith) s c.requires.few in
    record { next = refl; after = ap (λ (y : Slot). listed (set xs t y) (n + 1)) c.pushed.ensures ∙ w.0 }
