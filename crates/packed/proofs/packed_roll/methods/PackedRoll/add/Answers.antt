use Rattle.std.proofs.Common.{ltb, List, sym, ◌∙◌, subst, arith}
use Rattle.std.proofs.lemmas.Bool.{and_parts, ltb-true}
use Rattle.roll.specs.Ranges.{task?, level?}
use Rattle.roll.specs.Entries.{SoundList}
use Rattle.roll.specs.Model.{may_level}
use Rattle.roll.specs.declared.entry.Entry.{Entry}
use Rattle.roll.proofs.Sounds.{sound_room, sound_added}
use Rattle.roll.proofs.Verdicts.{verdict_ok}
use Rattle.packed.specs.Rows.{row}
use Rattle.packed.proofs.packed_roll.methods.PackedRoll.add.Goals as goal

pub push-requires : goal.push-requires
push-requires c =
    let t = c.args.task in
    let l = c.args.level in
    let p = and_parts (task? t) (level? l) (verdict_ok (may_level t l) _ (sym c.in_range.ensures ∙ c.in_ok-in_range.was)) in
    let few = ltb-true c.count.result 2 (verdict_ok (ltb c.count.result 2) _ (sym c.verdict.ensures ∙ c.in_ok-verdict.was)) in
    sound_room t (row c.args.self.now.entries) c.args.self.now.sound p.0 (omega arith)

pub invariant_of-self : goal.invariant_of-self
invariant_of-self c =
    let t = c.args.task in
    let l = c.args.level in
    let p = and_parts (task? t) (level? l) (verdict_ok (may_level t l) _ (sym c.in_range.ensures ∙ c.in_ok-in_range.was)) in
    let few = ltb-true c.count.result 2 (verdict_ok (ltb c.count.result 2) _ (sym c.verdict.ensures ∙ c.in_ok-verdict.was)) in
    let s = sound_added t l (row c.args.self.now.entries) c.args.self.now.sound p.0 p.1 (omega arith) in
    record { sound = subst (λ (x : List Entry). SoundList x) (sym c.push.ensures) s }
