-- The wake table's entries: a wake starts its task at a second of the day, and then again and again.
use Rattle.std.specs.Prelude.{ℕ, ◌-◌, Bool, false, cond, ◌&&◌, Some, None, Option, ◌==◌, nat_le}
use Rattle.table.specs.declared.wake.Phase.{Phase}
use Rattle.table.specs.declared.wake.Phase.TheVariants.{Waits, Counts, Spent}
use Rattle.table.specs.declared.wake.WakePlace.{WakePlace}
use Rattle.table.specs.declared.wake.entry.Wake.{Wake}
use Rattle.table.specs.declared.firing.Firing.{Firing}
use Rattle.table.specs.declared.firing.Firing.TheVariants.{Start}
use Rattle.table.specs.declared.selection.Selection.{Selection}
use Rattle.table.specs.declared.selection.Selection.TheVariants.{Set, Delay}
use Rattle.table.specs.Ranges.{named?}

abbrev pub wake_place_of : Wake → WakePlace
wake_place_of e = e.place

abbrev pub wake_stands : WakePlace → Bool
wake_stands p = named? p.task p.factor

abbrev pub no_wake : WakePlace
no_wake = record { task = 0; factor = 0; second = 0; cycle = 0; phase = Waits }

abbrev pub waits_for : ℕ → ℕ → ℕ → ℕ → WakePlace
waits_for task factor second cycle = record { task = task; factor = factor; second = second; cycle = cycle; phase = Waits }

abbrev pub rings_in : Phase → ℕ → ℕ → Bool
rings_in Waits own second = own == second
rings_in (Counts n) own second = nat_le n 1
rings_in Spent own second = false

-- it fires at a beat with this time of day
abbrev pub rings : ℕ → WakePlace → Bool
rings second p = rings_in p.phase p.second second

abbrev pub waits_on : Phase → Phase
waits_on Waits = Waits
waits_on (Counts n) = Counts (n - 1)
waits_on Spent = Spent

-- its phase after a beat: fired, it counts the beats of its cycle, and without a cycle it is spent
abbrev pub rang : ℕ → WakePlace → Phase
rang second p = cond (rings second p) (cond (p.cycle == 0) Spent (Counts p.cycle)) (waits_on p.phase)

abbrev pub wake_after : ℕ → WakePlace → Option WakePlace
wake_after second p = Some (record { task = p.task; factor = p.factor; second = p.second; cycle = p.cycle; phase = rang second p })

abbrev pub wake_fires : ℕ → WakePlace → Option Firing
wake_fires second p = cond (rings second p) (Some (Start p.task p.factor)) None

-- a wake is taken by a cancel of its task and factor, spent or not
abbrev pub wake_selected : Selection → WakePlace → Bool
wake_selected (Set task factor) p = p.task == task && p.factor == factor
wake_selected (Delay task) p = false
