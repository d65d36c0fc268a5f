use Rattle.std.proofs.Common.{◌≡◌, List, sym, ap, ◌∙◌, subst, arith}
use Rattle.std.specs.List.{position}
use Rattle.std.proofs.lemmas.Bool.{ltb-false}
use Rattle.roll.specs.Entries.{SoundList, of?, count_of, marking}
use Rattle.roll.specs.Model.{verdict}
use Rattle.roll.specs.declared.entry.Entry.{Entry}
use Rattle.roll.proofs.Sounds.{sound_marking}
use Rattle.roll.proofs.Verdicts.{refused}
use Rattle.packed.specs.Rows.{row}
use Rattle.packed.proofs.PlaceFacts.{place_ok, place_err, marking_none}
use Rattle.packed.proofs.packed_roll.Packed.mark.Goals as goal

pub returns-in_err-i-clause-answer : goal.returns-in_err-i-clause-answer
returns-in_err-i-clause-answer c =
    let t = c.args.task in
    let es = row c.args.self.now.entries in
    let o : c.place.result ≡ position (of? t) es = cc in
    let n = place_err t es c.place.result _ _ o (sym c.ok_or.ensures.value ∙ c.in_err-i.was) in
    refused _ c.from_residual.ensures.0 ∙ ap verdict (sym n)

pub returns-in_err-i-clause-after : goal.returns-in_err-i-clause-after
returns-in_err-i-clause-after c =
    let t = c.args.task in
    let es = row c.args.self.now.entries in
    let o : c.place.result ≡ position (of? t) es = cc in
    let n = place_err t es c.place.result _ _ o (sym c.ok_or.ensures.value ∙ c.in_err-i.was) in
    let z = ltb-false 0 (count_of t es) n in
    sym (marking_none c.args.asleep t es (omega arith))

pub invariant_of-self : goal.invariant_of-self
invariant_of-self c =
    let t = c.args.task in
    let es = row c.args.self.now.entries in
    let o : c.place.result ≡ position (of? t) es = cc in
    let p = place_ok t es c.place.result _ c.in_ok-i.i o (sym c.ok_or.ensures.value ∙ c.in_ok-i.was) in
    let m : row c.mark.new.self ≡ marking c.args.asleep t es = c.mark.ensures ∙ p.marks c.args.asleep in
    record { sound = subst (λ (x : List Entry). SoundList x) (sym m) (sound_marking c.args.asleep t es c.args.self.now.sound) }

pub returns-clause-answer : goal.returns-clause-answer
returns-clause-answer c =
    let t = c.args.task in
    let es = row c.args.self.now.entries in
    let o : c.place.result ≡ position (of? t) es = cc in
    let p = place_ok t es c.place.result _ c.in_ok-i.i o (sym c.ok_or.ensures.value ∙ c.in_ok-i.was) in
    ap verdict (sym p.some)

pub returns-clause-after : goal.returns-clause-after
returns-clause-after c =
    let t = c.args.task in
    let es = row c.args.self.now.entries in
    let o : c.place.result ≡ position (of? t) es = cc in
    let p = place_ok t es c.place.result _ c.in_ok-i.i o (sym c.ok_or.ensures.value ∙ c.in_ok-i.was) in
    c.mark.ensures ∙ p.marks c.args.asleep
