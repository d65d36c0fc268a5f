use Rattle.std.proofs.Common.{List, sym, ◌∙◌, subst}
use Rattle.std.proofs.lemmas.Bool.{and_parts}
use Rattle.roll.specs.Ranges.{task?, level?}
use Rattle.roll.specs.Entries.{SoundList}
use Rattle.roll.specs.Model.{may_level}
use Rattle.roll.specs.declared.entry.Entry.{Entry}
use Rattle.roll.proofs.Sounds.{sound_levelled}
use Rattle.roll.proofs.Verdicts.{verdict_ok}
use Rattle.packed.specs.Rows.{row}
use Rattle.packed.proofs.packed_roll.methods.PackedRoll.set_level.Goals as goal

pub invariant_of-self : goal.invariant_of-self
invariant_of-self c =
    let t = c.args.task in
    let l = c.args.level in
    let p = verdict_ok (may_level t l) _ (sym c.in_range.ensures ∙ c.in_ok-in_range.was) in
    let s = sound_levelled t l (row c.args.self.now.entries) (and_parts (task? t) (level? l) p).1 c.args.self.now.sound in
    record { sound = subst (λ (x : List Entry). SoundList x) (sym c.set_level.ensures) s }
