-- Starts: how one is accepted, fired, put to sleep, roused, ended and cut.
use Rattle.std.specs.Prelude.{ℕ, Bool, true, false, cond, ◌&&◌, List, [], ◌∷◌, ◌++◌, replicate, Some, None, Option, ◌==◌, nat_lt}
use Rattle.sheet.specs.declared.event.Event.{Event}
use Rattle.sheet.specs.declared.event.Kind.TheVariants.{Accepted, Missed, Cut, Wakened}
use Rattle.sheet.specs.Events.{event}
use Rattle.roll.specs.declared.entry.Entry.{Entry}
use Rattle.roll.specs.Tables.{put, none}
use Rattle.roll.specs.Entries.{awake, ended, marking, cleared}
use Rattle.roll.specs.Model.{with, count_in}
use Rattle.table.specs.declared.firing.Firing.{Firing}
use Rattle.table.specs.declared.firing.Firing.TheVariants.{Start, Rouse}
use Rattle.rules.specs.State.{Tasks}

-- the same tasks with other entries on the roll
abbrev pub rolled : Tasks → List Entry → Tasks
rolled s es = record { released = s.released; level = s.level; factors = s.factors; roll = with s.roll es }

-- a task takes one start more as long as fewer than two stand
abbrev pub room_for : Tasks → ℕ → Bool
room_for s t = nat_lt (count_in t s.roll) 2

-- a start of t is accepted, at its present level, behind all that stand
abbrev pub accepted : Tasks → ℕ → Tasks
accepted s t = rolled s (s.roll.entries ++ (awake t (s.level t) ∷ []))

-- the factor x of t is set
abbrev pub factored : Tasks → ℕ → ℕ → Tasks
factored s t x = record { released = s.released; level = s.level; factors = put s.factors t (put (s.factors t) x true); roll = s.roll }

-- a start that brings a factor, or none
abbrev pub accepted_with : Tasks → ℕ → Option ℕ → Tasks
accepted_with s t None = accepted s t
accepted_with s t (Some x) = factored (accepted s t) t x

-- A firing works as a queue does, but a dormant task misses its start too. A rousing ends the sleep of the current start.
abbrev pub takes : Tasks → ℕ → Bool
takes s t = s.released t && room_for s t

abbrev pub fired : Tasks → Firing → Tasks
fired s (Start t x) = cond (takes s t) (factored (accepted s t) t x) s
fired s (Rouse t) = rolled s (marking false t s.roll.entries)

abbrev pub tells : Tasks → Firing → Event
tells s (Start t x) = cond (takes s t) (event Accepted t) (event Missed t)
tells s (Rouse t) = event Wakened t

-- the current start of t sleeps; it is ended
abbrev pub slept : Tasks → ℕ → Tasks
slept s t = rolled s (marking true t s.roll.entries)

abbrev pub finished : Tasks → ℕ → Tasks
finished s t = rolled s (ended t s.roll.entries)

-- all starts of t are cut: its factors are cleared, its hold ends, its level is the written one, and it is dormant
abbrev pub stripped : Tasks → ℕ → ℕ → Tasks
stripped s t written = record {
  released = put s.released t false;
  level = put s.level t written;
  factors = put s.factors t none;
  roll = record { entries = cleared t s.roll.entries; held = put s.roll.held t false };
}

-- one event for each start that is cut
abbrev pub cut_events : Tasks → ℕ → List Event
cut_events s t = replicate (count_in t s.roll) (event Cut t)

-- the tasks at power-up, with the written levels: task 1 alone is released, and has one accepted start
abbrev pub started_tasks : (ℕ → ℕ) → Tasks
started_tasks written = record {
  released = λ t. (1 == t);
  level = written;
  factors = λ _. none;
  roll = record { entries = awake 1 (written 1) ∷ []; held = none };
}
