use Rattle.std.proofs.Common.{arith}
use Rattle.std.proofs.lemmas.List.{take_more_set}
use Rattle.stamped.proofs.renumbering.Renumbering.note.Goals as goal

pub returns : goal.returns
returns c = take_more_set c.args.self.now.stamps c.args.self.now.len c.args.stamp (omega arith)
