use Rattle.std.proofs.Common.{set, sym, ap, ◌∙◌, subst, arith}
use Rattle.std.proofs.lemmas.List.{length-set}
use Rattle.std.proofs.lemmas.Bool.{cond-true}
use Rattle.stamped.specs.declared.slot.Slot.{Slot}
use Rattle.roll.specs.Entries.{levelled}
use Rattle.roll.specs.Model.{may_level, with}
use Rattle.roll.proofs.Verdicts.{verdict_ok}
use Rattle.stamped.specs.Slots.{listed}
use Rattle.stamped.specs.Meaning.{meaning_of}
use Rattle.stamped.specs.Tables.{orderly_of, in_range}
use Rattle.stamped.specs.Counts.{Orderly}
use Rattle.stamped.specs.Writes.{levelled_write}
use Rattle.stamped.proofs.stamped_roll.methods.StampedRoll.set_level.Goals as goal

pub invariant_of-self : goal.invariant_of-self
invariant_of-self c =
    let s = c.args.self.now in
    let t = c.args.task in
    let l = c.args.level in
    let p = verdict_ok (may_level t l) _ (sym c.in_range.ensures ∙ c.in_ok-in_range.was) in
    let in_bounds = in_range t l p in
    let w = levelled_write s.next t l s.slots (omega (arith, s.whole)) (omega arith) (orderly_of s) in
    let r = subst (λ (y : Slot). Orderly (set s.slots t y) s.next) (sym c.levelled.ensures) w.1 in
    record { whole = length-set s.slots t c.levelled.result ∙ s.whole; room = s.room; apart = r.apart; good = r.good }

pub returns-clause-after : goal.returns-clause-after
returns-clause-after c =
    let s = c.args.self.now in
    let t = c.args.task in
    let l = c.args.level in
    let p = verdict_ok (may_level t l) _ (sym c.in_range.ensures ∙ c.in_ok-in_range.was) in
    let in_bounds = in_range t l p in
    let w = levelled_write s.next t l s.slots (omega (arith, s.whole)) (omega arith) (orderly_of s) in
    let m = meaning_of s in
    let e = ap (λ (y : Slot). listed (set s.slots t y) s.next) c.levelled.ensures ∙ w.0 in
    ap (with m) e ∙ sym (cond-true (may_level t l) (with m (levelled t l m.entries)) m p)
