use Rattle.std.proofs.Common.{Some, None, refl, ap, ◌∙◌}
use Rattle.table.specs.Rows.{all_fired}
use Rattle.rules.specs.State.{Tasks}
use Rattle.rules.specs.Starts.{fired}
use Rattle.rules.specs.Tables.{wake_firings}
use Rattle.kernel.specs.Views.{seen}
use Rattle.kernel.proofs.Same.{same_state}
use Rattle.kernel.proofs.Beaten.{ticked_is_at}
use Rattle.kernel.proofs.kernel.Kernel.beat.Goals as goal

pub returns-in_default-clause-state : goal.returns-in_default-clause-state
returns-in_default-clause-state g c =
    let s = (seen g.R.Roll.meaning g.R.Roll.LEVER c.args.self.now).state in
    let e = c.beat-told.ensures in
    let at = c.in_default.ensures in
    same_state e.target e.entries refl at.time ∙ ticked_is_at None s at.second

pub returns-clause-state : goal.returns-clause-state
returns-clause-state g c =
    let s = (seen g.R.Roll.meaning g.R.Roll.LEVER c.args.self.now).state in
    let e = c.beat-told.ensures in
    let f = c.beat.ensures in
    let at = c.in-Some.ensures in
    let second = c.in-Some.second in
    let fs = wake_firings (Some second) s.wakes in
    same_state (f.target ∙ ap (λ (v : Tasks). all_fired fired v fs) e.target) e.entries f.entries at.time ∙ ticked_is_at (Some second) s at.second
