use Rattle.std.proofs.Common.{◌≡◌, ◌<◌, get_or, take, set, sym, ap, ◌∙◌, arith}
use Rattle.std.proofs.lemmas.List.{length-take, get_or-take}
use Rattle.roll.specs.Entries.{awake, marked}
use Rattle.roll.specs.declared.entry.Entry.{Entry}
use Rattle.packed.proofs.RowFacts.{take_set_in}
use Rattle.packed.proofs.row.Row.mark.Goals as goal

pub returns : goal.returns
returns c =
    let n = c.args.self.now.len in
    let xs = c.args.self.now.items in
    let i = c.args.i in
    let b = c.args.asleep in
    let h = length-take n xs in
    let lt : i < n = omega arith in
    let e : get_or (take n xs) i (awake 0 0) ≡ get_or xs i (awake 0 0) = get_or-take n xs i (awake 0 0) lt in
    take_set_in n i xs (marked b (get_or xs i (awake 0 0))) ∙ ap (λ (x : Entry). set (take n xs) i (marked b x)) (sym e)
