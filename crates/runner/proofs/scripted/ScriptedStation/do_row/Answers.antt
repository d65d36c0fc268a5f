use Rattle.std.proofs.Common.{Some, None, refl, ap, ◌∙◌}
use Rattle.runner.specs.declared.positions.Position.{Position}
use Rattle.runner.specs.Scripts.{Progress, Outcome, instruction_of}
use Rattle.runner.specs.Views.{station_in, progress_in}
use Rattle.runner.proofs.Rows.{same_progress, row_does}
use Rattle.runner.proofs.scripted.ScriptedStation.do_row.Goals as goal

pub returns-in-Some-instruction_at : goal.returns-in-Some-instruction_at
returns-in-Some-instruction_at g c =
    let p = progress_in g.R.Roll.meaning g.R.Roll.LEVER c.args.self.now in
    let q : Progress = record { station = station_in g.R.Roll.meaning g.R.Roll.LEVER c.first.new.station; positions = p.positions } in
    let t = c.get-task.result in
    let e = c.get-task.ensures in
    let i = c.in-Some-instruction_at.ensures.value ∙ ap (λ (x : Position). instruction_of c.args.book.bytes.now t x.row) c.at.ensures in
    let w = row_does c.args.book.bytes.now p q t (Some c.in-Some-instruction_at.instruction) (e.value ∙ c.in-Some.ensures.answer) (same_progress c.first.ensures.same refl) e.range.0 i in
    record {
      progress = c.follow.ensures.progress ∙ ap (λ (o : Outcome). o.progress) w;
      told = c.follow.ensures.told ∙ ap (λ (o : Outcome). o.told) w;
    }

pub returns-in-None : goal.returns-in-None
returns-in-None g c =
    let p = progress_in g.R.Roll.meaning g.R.Roll.LEVER c.args.self.now in
    let q : Progress = record { station = station_in g.R.Roll.meaning g.R.Roll.LEVER c.first.new.station; positions = p.positions } in
    let t = c.get-task.result in
    let e = c.get-task.ensures in
    let i = c.in-None.ensures.value ∙ ap (λ (x : Position). instruction_of c.args.book.bytes.now t x.row) c.at.ensures in
    let w = row_does c.args.book.bytes.now p q t None (e.value ∙ c.in-Some.ensures.answer) (same_progress c.first.ensures.same refl) e.range.0 i in
    record {
      progress = c.call.ensures.progress ∙ ap (λ (o : Outcome). o.progress) w;
      told = c.call.ensures.told ∙ ap (λ (o : Outcome). o.told) w;
    }
