use Rattle.std.proofs.Common.{◌≡◌, arith, rules}
use Rattle.stamped.specs.Numbers.{below}
use Rattle.stamped.specs.Noted.{noted}
use Rattle.stamped.proofs.Numbers.{below_small, below_order}
use Rattle.stamped.proofs.renumbering.Renumbering.number.Goals as goal

pub returns : goal.returns
returns c =
    let s = c.args.stamp in
    let xs = noted c.args.self.now in
    let e : c.smaller.result ≡ below s xs = search rules in
    record {
      number = e;
      small = λ p. let k = below_small s xs p in omega arith;
      order = λ a p lt. let k = below_order a s xs p lt in omega arith;
    }
