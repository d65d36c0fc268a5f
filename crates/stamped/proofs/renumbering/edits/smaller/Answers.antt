use Rattle.std.proofs.Common.{◌<◌, ◌^◌, rules, arith}
use Rattle.stamped.specs.Numbers.{below}
use Rattle.stamped.proofs.Numbers.{below_is, below_length}
use Rattle.stamped.proofs.renumbering.edits.smaller.Goals as goal

pub sum-requires-clause-fits : goal.sum-requires-clause-fits
sum-requires-clause-fits c =
    let s = c.args.stamp in
    let xs = c.args.stamps.now in
    let e = below_is s xs in
    let k = below_length s xs in
    let few : below s xs < 2 ^ 16 = omega arith in
    search rules

pub returns : goal.returns
returns c =
    let e = below_is c.args.stamp c.args.stamps.now in
    search rules
