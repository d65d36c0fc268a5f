use Rattle.std.proofs.Common.{◌≡◌, sym, ap, ◌∙◌, arith}
use Rattle.std.specs.List.{position}
use Rattle.std.proofs.lemmas.Bool.{ltb-false}
use Rattle.roll.specs.Entries.{of?, count_of}
use Rattle.roll.specs.Model.{verdict, with}
use Rattle.roll.proofs.Counts.{ended_none}
use Rattle.roll.proofs.Sounds.{sound_ended}
use Rattle.roll.proofs.Verdicts.{refused}
use Rattle.packed.specs.Rows.{row}
use Rattle.packed.specs.Meaning.{meaning_of}
use Rattle.packed.proofs.PlaceFacts.{place_ok, place_err}
use Rattle.packed.proofs.packed_roll.methods.PackedRoll.end.Goals as goal

pub returns-in_err-i-clause-answer : goal.returns-in_err-i-clause-answer
returns-in_err-i-clause-answer c =
    let t = c.args.task in
    let es = row c.args.self.now.entries in
    let o : c.place.result ≡ position (of? t) es = cc in
    let n = place_err t es c.place.result _ _ o (sym c.ok_or.ensures.value ∙ c.in_err-i.was) in
    refused _ c.from_residual.ensures.0 ∙ ap verdict (sym n)

pub returns-in_err-i-clause-after : goal.returns-in_err-i-clause-after
returns-in_err-i-clause-after c =
    let t = c.args.task in
    let es = row c.args.self.now.entries in
    let o : c.place.result ≡ position (of? t) es = cc in
    let n = place_err t es c.place.result _ _ o (sym c.ok_or.ensures.value ∙ c.in_err-i.was) in
    let z = ltb-false 0 (count_of t es) n in
    ap (with (meaning_of c.args.self.now)) (sym (ended_none t es (omega arith)))

-- The steps after the place was found go unnamed here, so that another body than the right one is refused by what it does.
pub invariant_of-self : goal.invariant_of-self
invariant_of-self c =
    let t = c.args.task in
    let es = row c.args.self.now.entries in
    let o : c.place.result ≡ position (of? t) es = cc in
    let p = place_ok t es c.place.result _ c.in_ok-i.i o (sym c.ok_or.ensures.value ∙ c.in_ok-i.was) in
    let e = p.ends in
    let s = sound_ended t es c.args.self.now.sound in
    let good = s.0 in
    record { sound = (cc, λ u. let few = s.1 u in grind arith) }

pub returns-clause-answer : goal.returns-clause-answer
returns-clause-answer c =
    let t = c.args.task in
    let es = row c.args.self.now.entries in
    let o : c.place.result ≡ position (of? t) es = cc in
    let p = place_ok t es c.place.result _ c.in_ok-i.i o (sym c.ok_or.ensures.value ∙ c.in_ok-i.was) in
    ap verdict (sym p.some)

pub returns-clause-after : goal.returns-clause-after
returns-clause-after c =
    let t = c.args.task in
    let es = row c.args.self.now.entries in
    let o : c.place.result ≡ position (of? t) es = cc in
    let p = place_ok t es c.place.result _ c.in_ok-i.i o (sym c.ok_or.ensures.value ∙ c.in_ok-i.was) in
    let e = p.ends in
    cc
