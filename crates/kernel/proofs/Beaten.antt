-- What a tick does, with the second that it reaches set apart.
use Rattle.std.proofs.Common.{◌≡◌, ℕ, Option, ap}
use Rattle.table.specs.Rows.{lefts, all_fired}
use Rattle.table.specs.Timers.{timer_after}
use Rattle.table.specs.Clocks.{next_milli}
use Rattle.rules.specs.State.{State}
use Rattle.rules.specs.Starts.{fired}
use Rattle.rules.specs.Tables.{reached, tasks_after_timers, wake_firings, wakes_after, ticked}
use Rattle.kernel.proofs.Same.{state_of}

abbrev pub ticked_at : Option ℕ → State → State
ticked_at o s = state_of (all_fired fired (tasks_after_timers s) (wake_firings o s.wakes)) (lefts timer_after s.timers) (wakes_after o s.wakes) (next_milli s.clock)

pub ticked_is_at : (o : Option ℕ) (s : State) → o ≡ reached s → ticked_at o s ≡ ticked s
ticked_is_at o s e = ap (λ (p : Option ℕ). ticked_at p s) e
