use Rattle.std.proofs.Common.{rules, arith, ◌≡◌, false, length, ap, ◌∙◌}
use Rattle.roll.specs.Tables.{put, none}
use Rattle.roll.specs.Model.{Model}
use Rattle.tasks.proofs.Rolls.{unheld}
use Rattle.tasks.proofs.Records.{records_put}
use Rattle.tasks.proofs.task_table.TaskTable.strip.Goals as goal

pub returns-clause-state : goal.returns-clause-state
returns-clause-state g c =
    let s = c.args.self.now in
    let t = c.get-number.result in
    let range = c.get-number.ensures.range in
    let n : length s.records ≡ 128 = search rules in
    let roll = c.unhold.ensures.after
    ∙ unheld g.R.Roll.LEVER t (g.R.Roll.meaning c.clear-count.new.self) range.0 range.1 (g.met.R.Roll.free c.clear-count.new.self)
    ∙ ap (λ (x : Model). let r : Model = record { entries = x.entries; held = put x.held t false } in r) c.clear-count.ensures.after in
    rw (← c.get-number.ensures.value)
    (records_put g.R.Roll.meaning c.unhold.new.self s.records t c.dormant.result false c.args.written none _ (omega (arith, n, range)) c.dormant.ensures.mode c.dormant.ensures.level c.dormant.ensures.factors roll)
