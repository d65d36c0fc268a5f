-- What a call does once it is obeyed: the new state and the events, before `runs` is told.
use Rattle.std.specs.Prelude.{ℕ, zero, suc, ◌*◌, Bool, true, false, cond, List, [], ◌∷◌, ◌++◌, Some, None, Option, ◌==◌}
use Rattle.sheet.specs.declared.event.Event.{Event}
use Rattle.sheet.specs.declared.event.Kind.TheVariants.{Accepted, Ended}
use Rattle.sheet.specs.Events.{event}
use Rattle.roll.specs.Tables.{put}
use Rattle.roll.specs.Entries.{levelled}
use Rattle.table.specs.declared.timer.TimerPlace.{TimerPlace}
use Rattle.table.specs.declared.wake.WakePlace.{WakePlace}
use Rattle.table.specs.declared.selection.Selection.TheVariants.{Set, Delay}
use Rattle.table.specs.Timers.{delay_place, timer_place}
use Rattle.table.specs.Wakes.{waits_for}
use Rattle.rules.specs.declared.call.Macro.{Macro}
use Rattle.rules.specs.declared.call.Macro.TheVariants.{Rleas, Queue, Abort, Delay as DelayFor, Timer, Ctime, Chap, Sfact, Gfact, Susp, Rsum, Wake, Cwake, Stime, Exit}
use Rattle.rules.specs.State.{Setup, Tasks, State}
use Rattle.rules.specs.Starts.{accepted_with, factored, slept, finished, stripped, cut_events}
use Rattle.rules.specs.Tables.{timers_without, wakes_without}

-- `over` says that the start which had the processor has finished; `factor` is what gfact answers
pub record Effect : Type 0 where
  pub state : State
  pub told : List Event
  pub over : Bool
  pub factor : ℕ

abbrev pub in_tasks : State → Tasks → State
in_tasks s ts = record { tasks = ts; timers = s.timers; wakes = s.wakes; clock = s.clock }

abbrev pub in_timers : State → List TimerPlace → State
in_timers s ps = record { tasks = s.tasks; timers = ps; wakes = s.wakes; clock = s.clock }

abbrev pub in_wakes : State → List WakePlace → State
in_wakes s ps = record { tasks = s.tasks; timers = s.timers; wakes = ps; clock = s.clock }

-- a change that tells nothing of its own
abbrev pub quiet : State → Effect
quiet s = record { state = s; told = []; over = false; factor = 0 }

abbrev pub telling : State → List Event → Effect
telling s es = record { state = s; told = es; over = false; factor = 0 }

-- the start of the issuer r is ended
abbrev pub ending : State → ℕ → Effect
ending s r = record { state = in_tasks s (finished s.tasks r); told = event Ended r ∷ []; over = true; factor = 0 }

-- the starts of t are cut and its delay goes, while r has the processor; timers and wakes set for t stay
abbrev pub cutting : Setup → State → ℕ → ℕ → Effect
cutting b s t r = record {
  state = in_timers (in_tasks s (stripped s.tasks t (b.written t))) (timers_without s (Delay t));
  told = cut_events s.tasks t;
  over = (t == r);
  factor = 0;
}

-- a start of t is accepted, with a factor or without
abbrev pub starting : State → ℕ → Option ℕ → Effect
starting s t x = telling (in_tasks s (accepted_with s.tasks t x)) (event Accepted t ∷ [])

-- the issuer r sleeps for n milliseconds
abbrev pub sleeping : State → ℕ → ℕ → Effect
sleeping s r n = quiet (in_timers (in_tasks s (slept s.tasks r)) (s.timers ++ (delay_place r n ∷ [])))

abbrev pub releasing : Tasks → ℕ → Tasks
releasing s t = record { released = put s.released t true; level = s.level; factors = s.factors; roll = s.roll }

-- the level of t changes, also for the starts that stand; their age does not
abbrev pub levelling : Tasks → ℕ → ℕ → Tasks
levelling s t l = record {
  released = s.released;
  level = put s.level t l;
  factors = s.factors;
  roll = record { entries = levelled t l s.roll.entries; held = s.roll.held };
}

abbrev pub holding : Tasks → ℕ → Bool → Tasks
holding s t h = record { released = s.released; level = s.level; factors = s.factors; roll = record { entries = s.roll.entries; held = put s.roll.held t h } }

-- the smallest of the n factors from x on that is set
unfoldable pub smallest : ℕ → ℕ → (ℕ → Bool) → Option ℕ
smallest zero x f = None
smallest (suc n) x f = cond (f x) (Some x) (smallest n (suc x) f)

-- the factor that gfact answers, and what it answers when no factor is set
abbrev pub factor_or : Option ℕ → ℕ
factor_or None = 0
factor_or (Some x) = x

abbrev pub without : Tasks → ℕ → Option ℕ → Tasks
without s t None = s
without s t (Some x) = record { released = s.released; level = s.level; factors = put s.factors t (put (s.factors t) x false); roll = s.roll }

abbrev pub smallest_of : Tasks → ℕ → Option ℕ
smallest_of s t = smallest 17 0 (s.factors t)

-- the issuer's smallest factor is taken
abbrev pub taking : State → ℕ → Effect
taking s r = record { state = in_tasks s (without s.tasks r (smallest_of s.tasks r)); told = []; over = false; factor = factor_or (smallest_of s.tasks r) }

-- a macro of the task r
abbrev pub obeyed : Setup → State → ℕ → Macro → Effect
obeyed b s r (Rleas t) = quiet (in_tasks s (releasing s.tasks t))
obeyed b s r (Queue t x) = starting s t (Some x)
obeyed b s r (Abort t) = cond (b.registered t) (cutting b s t r) (quiet s)
obeyed b s r (DelayFor n) = sleeping s r n
obeyed b s r (Timer t n c x) = quiet (in_timers s (s.timers ++ (timer_place t x n c ∷ [])))
obeyed b s r (Ctime t x) = quiet (in_timers s (timers_without s (Set t x)))
obeyed b s r (Chap t l) = quiet (in_tasks s (levelling s.tasks t l))
obeyed b s r (Sfact t x) = quiet (in_tasks s (factored s.tasks t x))
obeyed b s r Gfact = taking s r
obeyed b s r (Susp t) = quiet (in_tasks s (holding s.tasks t true))
obeyed b s r (Rsum t) = quiet (in_tasks s (holding s.tasks t false))
obeyed b s r (Wake t x n c) = quiet (in_wakes s (s.wakes ++ (waits_for t x n c ∷ [])))
obeyed b s r (Cwake t x) = quiet (in_wakes s (wakes_without s (Set t x)))
obeyed b s r (Stime n) = quiet (record { tasks = s.tasks; timers = s.timers; wakes = s.wakes; clock = n * 1000 })
obeyed b s r Exit = ending s r
