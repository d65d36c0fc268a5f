use Rattle.std.proofs.Common.{rules, arith}
use Rattle.stamped.specs.Tables.{orderly_of}
use Rattle.stamped.specs.Counts.{count_size}
use Rattle.stamped.proofs.stamped_roll.methods.StampedRoll.count.Goals as goal

pub returns : goal.returns
returns c =
    let h = count_size c.args.self.now.slots c.args.self.now.next c.args.task (orderly_of c.args.self.now) in
    search rules
