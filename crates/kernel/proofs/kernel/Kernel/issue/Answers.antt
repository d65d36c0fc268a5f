use Rattle.std.proofs.Common.{sym}
use Rattle.rules.specs.declared.answer.Code.TheVariants.{FieldRange}
use Rattle.rules.specs.Effects.{cutting}
use Rattle.kernel.specs.Views.{seen}
use Rattle.kernel.proofs.Issues.{had_by, numbered_by, issue_cut, issue_works}
use Rattle.kernel.proofs.kernel.Kernel.issue.Goals as goal

pub returns-then-not-is_in_range : goal.returns-then-not-is_in_range
returns-then-not-is_in_range g c =
    let v = seen g.R.Roll.meaning g.R.Roll.LEVER c.args.self.now in
    let r = c.in_ok-issuer.issuer in
    let had = had_by v.state.tasks.roll c.args.was r c.in_ok-issuer.ensures.ok_part c.requires.was in
    let low = numbered_by v.state.tasks.roll r (g.met.R.Roll.sound c.args.self.now.tasks.roll) had in
    (FieldRange, cutting v.setup v.state r r, issue_cut v c.args.m r had low (sym c.if-not-is_in_range.ensures), c.cut_issuer.ensures)

pub returns : goal.returns
returns g c =
    let v = seen g.R.Roll.meaning g.R.Roll.LEVER c.args.self.now in
    let r = c.in_ok-issuer.issuer in
    let had = had_by v.state.tasks.roll c.args.was r c.in_ok-issuer.ensures.ok_part c.requires.was in
    let low = numbered_by v.state.tasks.roll r (g.met.R.Roll.sound c.args.self.now.tasks.roll) had in
    issue_works v c.args.m r had low c.args.sheet.now _ _ (sym c.if-not-is_in_range.ensures) c.obey.result c.obey.ensures
