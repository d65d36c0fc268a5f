use Rattle.std.proofs.Common.{◌≡◌, ltb, set, sym, ap, ◌∙◌, subst, arith}
use Rattle.std.proofs.lemmas.List.{length-set}
use Rattle.std.proofs.lemmas.Bool.{ltb-true, ltb-false}
use Rattle.roll.specs.Entries.{count_of}
use Rattle.roll.specs.Model.{with}
use Rattle.roll.proofs.Counts.{ended_none}
use Rattle.roll.proofs.Verdicts.{verdict_ok, verdict_err}
use Rattle.stamped.specs.declared.slot.Slot.{Slot}
use Rattle.stamped.specs.Slots.{listed}
use Rattle.stamped.specs.Meaning.{meaning_of}
use Rattle.stamped.specs.Counts.{Orderly}
use Rattle.stamped.specs.Writes.{ended_write}
use Rattle.stamped.specs.Tables.{orderly_of, has_slot}
use Rattle.stamped.proofs.stamped_roll.methods.StampedRoll.end.Goals as goal

pub returns-in_err-verdict-clause-after : goal.returns-in_err-verdict-clause-after
returns-in_err-verdict-clause-after c =
    let t = c.args.task in
    let es = listed c.args.self.now.slots c.args.self.now.next in
    let n = ltb-false 0 c.count.result (verdict_err (ltb 0 c.count.result) _ (sym c.verdict.ensures ∙ c.in_err-verdict.was)) in
    let z : count_of t es ≡ 0 = omega arith in
    ap (with (meaning_of c.args.self.now)) (sym (ended_none t es z))

pub bounds-self-t : goal.bounds-self-t
bounds-self-t c =
    let p = ltb-true 0 c.count.result (verdict_ok (ltb 0 c.count.result) _ (sym c.verdict.ensures ∙ c.in_ok-verdict.was)) in
    has_slot c.args.self.now c.args.task (omega arith)

pub bounds-self-t-2 : goal.bounds-self-t-2
bounds-self-t-2 c =
    let p = ltb-true 0 c.count.result (verdict_ok (ltb 0 c.count.result) _ (sym c.verdict.ensures ∙ c.in_ok-verdict.was)) in
    has_slot c.args.self.now c.args.task (omega arith)

pub invariant_of-self : goal.invariant_of-self
invariant_of-self c =
    let s = c.args.self.now in
    let t = c.args.task in
    let p = ltb-true 0 c.count.result (verdict_ok (ltb 0 c.count.result) _ (sym c.verdict.ensures ∙ c.in_ok-verdict.was)) in
    let lt = has_slot s t (omega arith) in
    let w = ended_write s.next t s.slots (omega (arith, s.whole)) (orderly_of s) in
    let r = subst (λ (y : Slot). Orderly (set s.slots t y) s.next) (sym c.ended.ensures) w.1 in
    record { whole = length-set s.slots t c.ended.result ∙ s.whole; room = s.room; apart = r.apart; good = r.good }

pub returns-clause-after : goal.returns-clause-after
returns-clause-after c =
    let s = c.args.self.now in
    let t = c.args.task in
    let p = ltb-true 0 c.count.result (verdict_ok (ltb 0 c.count.result) _ (sym c.verdict.ensures ∙ c.in_ok-verdict.was)) in
    let lt = has_slot s t (omega arith) in
    let w = ended_write s.next t s.slots (omega (arith, s.whole)) (orderly_of s) in
    ap (with (meaning_of c.args.self.now)) (ap (λ (y : Slot). listed (set s.slots t y) s.next) c.ended.ensures ∙ w.0)
