use Rattle.std.proofs.Common.{[], ◌∷◌, ◌++◌, length, sym, ap, ◌∙◌, append_assoc, arith}
use Rattle.std.proofs.lemmas.List.{length-append}
use Rattle.stamped.specs.Numbers.{stamps_of}
use Rattle.stamped.specs.Noted.{noted}
use Rattle.stamped.proofs.slot.Slot.note.Goals as goal

pub note-requires-in-Two-2 : goal.note-requires-in-Two-2
note-requires-in-Two-2 c =
    let e = ap length c.note-in-Two.ensures in
    let l = length-append (noted c.args.numbers.now) (c.in-Two.a.stamp ∷ []) in
    omega arith

pub returns-in-Two : goal.returns-in-Two
returns-in-Two c =
    let zs = noted c.args.numbers.now in
    let a = c.in-Two.a.stamp in
    let b = c.in-Two.b.stamp in
    c.note-in-Two-2.ensures ∙ ap (λ l. l ++ b ∷ []) c.note-in-Two.ensures ∙ append_assoc zs (a ∷ []) (b ∷ []) ∙ ap (λ x. zs ++ stamps_of x) (sym c.in-Two.is)
