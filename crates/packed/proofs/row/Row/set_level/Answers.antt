use Rattle.std.proofs.Common.{◌-◌, ◌∙◌, arith}
use Rattle.roll.specs.Entries.{relevel}
use Rattle.packed.proofs.RowFacts.{front_mapped}
use Rattle.packed.proofs.row.Row.set_level.Goals as goal

pub invariant_of-self : goal.invariant_of-self
invariant_of-self c =
    let xs = c.args.self.now.items in
    let n = c.args.self.now.len in
    let w = c.args.self.now.whole in
    let fits = c.args.self.now.fits in
    let m = front_mapped (relevel c.args.task c.args.level) n (n - 0) xs c.set_level.new.es (omega arith) (omega arith) c.set_level.ensures in
    record { whole = m.0 ∙ w; fits = fits }

pub returns : goal.returns
returns c =
    let xs = c.args.self.now.items in
    let n = c.args.self.now.len in
    let w = c.args.self.now.whole in
    let fits = c.args.self.now.fits in
    (front_mapped (relevel c.args.task c.args.level) n (n - 0) xs c.set_level.new.es (omega arith) (omega arith) c.set_level.ensures).1
