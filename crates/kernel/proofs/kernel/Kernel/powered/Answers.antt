use Rattle.std.proofs.Common.{ℕ, ap, ◌∙◌, rules}
use mathlib.Core.Path.{fun_ext}
use Rattle.rules.specs.Starts.{started_tasks}
use Rattle.kernel.proofs.Same.{same_state, same_setup, same_station, no_timers, no_wakes}
use Rattle.kernel.proofs.kernel.Kernel.powered.Goals as goal

pub returns : goal.returns
returns g c =
    let e = c.of-setup.ensures in
    let levels = ap started_tasks (fun_ext c.levels-levels.ensures) in
    same_station
    (same_setup g.R.Roll.LEVER e.registered e.written)
    (same_state (c.powered.ensures ∙ levels ∙ ap (λ (f : ℕ → ℕ). started_tasks f) e.written) (no_timers c.free.result c.free.ensures) (no_wakes c.free-2.result c.free-2.ensures) (search rules))
