use Rattle.std.proofs.Common.{ℕ, ◌∙◌, arith, rules}
use Rattle.std.specs.List.{range_with_len}
use Rattle.std.proofs.lemmas.Iterator.{YieldsList-from_map, YieldsList-from_range}
use Rattle.std.proofs.lemmas.Iterator.Consumers.{sum_by_from_yields_List, fits_by_from_yields_list}
use Rattle.roll.specs.Entries.{count_of}
use Rattle.tasks.proofs.Totals.{counted_all, counted_fits}
use Rattle.tasks.proofs.task_table.TaskTable.total.Goals as goal

pub sum-requires-clause-fits : goal.sum-requires-clause-fits
sum-requires-clause-fits g c =
    let es = (g.R.Roll.meaning c.args.self.now.roll).entries in
    let count = (λ (t : ℕ). count_of t es) in
    fits_by_from_yields_list count (range_with_len 1 127) c.map.result 256
    (YieldsList-from_map _ count (YieldsList-from_range 1 128 127 c.map.ensures.source (omega arith)) c.map.ensures.closure (λ x r q k. search rules))
    (counted_fits es (g.met.R.Roll.sound c.args.self.now.roll).0)

pub returns : goal.returns
returns g c =
    let es = (g.R.Roll.meaning c.args.self.now.roll).entries in
    let count = (λ (t : ℕ). count_of t es) in
    sum_by_from_yields_List count (range_with_len 1 127) c.map.result c.sum.result c.sum.ensures.ran
    (YieldsList-from_map _ count (YieldsList-from_range 1 128 127 c.map.ensures.source (omega arith)) c.map.ensures.closure (λ x r q k. search rules))
    ∙ counted_all es (g.met.R.Roll.sound c.args.self.now.roll).0
