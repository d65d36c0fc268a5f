-- Timers, delays, wakes and the clock.
use Rattle.std.specs.Prelude.{ℕ, Bool, not, List, [], ◌++◌, length, Some, None, filter, Option, ◌==◌, nat_le}
use Rattle.sheet.specs.declared.event.Event.{Event}
use Rattle.table.specs.declared.firing.Firing.{Firing}
use Rattle.table.specs.declared.timer.TimerPlace.{TimerPlace}
use Rattle.table.specs.declared.wake.WakePlace.{WakePlace}
use Rattle.table.specs.declared.selection.Selection.{Selection}
use Rattle.table.specs.declared.selection.Selection.TheVariants.{Set}
use Rattle.table.specs.Rows.{lefts, firings, all_fired, all_told}
use Rattle.table.specs.Timers.{timer_after, timer_fires, timer_selected}
use Rattle.table.specs.Wakes.{wake_after, wake_fires, wake_selected}
use Rattle.table.specs.Clocks.{next_milli, full_second}
use Rattle.rules.specs.State.{Tasks, State}
use Rattle.rules.specs.Starts.{fired, tells}

-- the table has no place left
abbrev pub timers_full : State → Bool
timers_full s = nat_le 64 (length s.timers)

abbrev pub wakes_full : State → Bool
wakes_full s = nat_le 32 (length s.wakes)

-- a cancel of a task and a factor finds nothing
abbrev pub no_timer : State → ℕ → ℕ → Bool
no_timer s t x = length (filter (timer_selected (Set t x)) s.timers) == 0

abbrev pub no_wake : State → ℕ → ℕ → Bool
no_wake s t x = length (filter (wake_selected (Set t x)) s.wakes) == 0

-- what is left in the tables after a cancel, or where the delay of a task goes
abbrev pub timers_without : State → Selection → List TimerPlace
timers_without s by = filter (λ p. not (timer_selected by p)) s.timers

abbrev pub wakes_without : State → Selection → List WakePlace
wakes_without s by = filter (λ p. not (wake_selected by p)) s.wakes

-- A tick beats the timers, and then, on a full second, the wakes with the time of day.
abbrev pub wake_firings : Option ℕ → List WakePlace → List Firing
wake_firings None ps = []
wake_firings (Some second) ps = firings (wake_fires second) ps

abbrev pub wakes_after : Option ℕ → List WakePlace → List WakePlace
wakes_after None ps = ps
wakes_after (Some second) ps = lefts (wake_after second) ps

-- the second of the day that a tick reaches, if it is a full one
abbrev pub reached : State → Option ℕ
reached s = full_second (next_milli s.clock)

abbrev pub tasks_after_timers : State → Tasks
tasks_after_timers s = all_fired fired s.tasks (firings timer_fires s.timers)

abbrev pub ticked : State → State
ticked s = record {
  tasks = all_fired fired (tasks_after_timers s) (wake_firings (reached s) s.wakes);
  timers = lefts timer_after s.timers;
  wakes = wakes_after (reached s) s.wakes;
  clock = next_milli s.clock;
}

-- the events of the timers, and behind them those of the wakes
abbrev pub tick_events : State → List Event
tick_events s =
    all_told fired tells s.tasks (firings timer_fires s.timers)
    ++ all_told fired tells (tasks_after_timers s) (wake_firings (reached s) s.wakes)
