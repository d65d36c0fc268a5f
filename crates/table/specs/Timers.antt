-- The timer table's entries: a timer starts its task, a delay rouses it.
use Rattle.std.specs.Prelude.{ℕ, ◌-◌, Bool, true, false, cond, not, ◌&&◌, ◌||◌, Some, None, Option, ◌==◌, nat_le}
use Rattle.table.specs.declared.timer.TimerPlace.{TimerPlace}
use Rattle.table.specs.declared.timer.entry.Timer.{Timer}
use Rattle.table.specs.declared.firing.Firing.{Firing}
use Rattle.table.specs.declared.firing.Firing.TheVariants.{Start, Rouse}
use Rattle.table.specs.declared.selection.Selection.{Selection}
use Rattle.table.specs.declared.selection.Selection.TheVariants.{Set, Delay}
use Rattle.table.specs.Ranges.{named?}

abbrev pub place_of : Timer → TimerPlace
place_of e = e.place

abbrev pub standing : TimerPlace → Bool
standing p = named? p.task p.factor

abbrev pub no_timer : TimerPlace
no_timer = record { delay = false; task = 0; factor = 0; wait = 0; cycle = 0 }

-- a delay of t milliseconds of a task
abbrev pub delay_place : ℕ → ℕ → TimerPlace
delay_place task t = record { delay = true; task = task; factor = 0; wait = t; cycle = 0 }

-- a timer of t milliseconds and then of each cycle
abbrev pub timer_place : ℕ → ℕ → ℕ → ℕ → TimerPlace
timer_place task factor t cycle = record { delay = false; task = task; factor = factor; wait = t; cycle = cycle }

-- the same, with so many beats to wait
abbrev pub with_wait : TimerPlace → ℕ → TimerPlace
with_wait p n = record { delay = p.delay; task = p.task; factor = p.factor; wait = n; cycle = p.cycle }

-- this beat is the one that it waits for
abbrev pub due : TimerPlace → Bool
due p = nat_le p.wait 1

-- a delay, and a timer without a cycle, goes when it fires; a timer with a cycle waits anew
abbrev pub timer_after : TimerPlace → Option TimerPlace
timer_after p =
    cond (due p)
    (cond (p.delay || p.cycle == 0) None (Some (with_wait p p.cycle)))
    (Some (with_wait p (p.wait - 1)))

abbrev pub timer_fires : TimerPlace → Option Firing
timer_fires p = cond (due p) (Some (cond p.delay (Rouse p.task) (Start p.task p.factor))) None

-- a cancel of a task and a factor never takes a delay; the delay of a task is its own kind of entry
abbrev pub timer_selected : Selection → TimerPlace → Bool
timer_selected (Set task factor) p = not p.delay && (p.task == task && p.factor == factor)
timer_selected (Delay task) p = p.delay && p.task == task
