use Rattle.std.proofs.Common.{◌-◌, take, ap, ◌∙◌, arith}
use Rattle.std.proofs.lemmas.List.{length-take}
use Rattle.packed.proofs.RowFacts.{moved}
use Rattle.packed.proofs.row.Row.remove.Goals as goal

pub returns : goal.returns
returns c =
    let n = c.args.self.now.len in
    let xs = c.args.self.now.items in
    let h = length-take n xs in
    let w = c.args.self.now.whole in
    let f = c.args.self.now.fits in
    ap (take (n - 1)) c.copy_within.ensures.after ∙ moved xs c.args.i n (omega arith) (omega arith)
