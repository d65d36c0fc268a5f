-- The edges of the rules: limits of fields, full tables, starts turned away, and what a cut or a rousing leaves.
use Rattle.std.specs.Prelude.{◌≡◌, ℕ, zero, suc, ◌<◌, ◌≤◌, Bool, true, false, cond, not, ◌&&◌, ◌||◌, List, [], ◌∷◌, ◌++◌, map, length, filter, ◌==◌}
use Rattle.sheet.specs.declared.event.Event.{Event}
use Rattle.sheet.specs.declared.event.Kind.TheVariants.{Accepted, Missed, Cut, Wakened, Runs}
use Rattle.sheet.specs.Events.{event}
use Rattle.roll.specs.declared.entry.Entry.{Entry}
use Rattle.roll.specs.Entries.{of?, awake, marked, marking, cleared}
use Rattle.roll.specs.Model.{count_in}
use Rattle.roll.specs.Tables.{none}
use Rattle.table.specs.declared.firing.Firing.{Firing}
use Rattle.table.specs.declared.firing.Firing.TheVariants.{Start, Rouse}
use Rattle.table.specs.declared.timer.TimerPlace.{TimerPlace}
use Rattle.table.specs.Rows.{lefts, firings, all_told}
use Rattle.table.specs.Timers.{delay_place, timer_place, timer_after, timer_fires}
use Rattle.table.specs.Wakes.{waits_for}
use Rattle.rules.specs.declared.call.Call.TheVariants.{Macro as Issues, Tick, Coil}
use Rattle.rules.specs.declared.call.Macro.{Macro}
use Rattle.rules.specs.declared.call.Macro.TheVariants.{Queue, Abort, Delay, Timer, Ctime, Gfact}
use Rattle.rules.specs.Codes.{number_of}
use Rattle.rules.specs.State.{Setup, Tasks, State, running}
use Rattle.rules.specs.Starts.{fired, tells, cut_events}
use Rattle.rules.specs.Tables.{no_timer, wake_firings, reached, ticked}
use Rattle.rules.specs.Fields.{task_field, in_range}
use Rattle.rules.specs.Refusals.{Step, turn}
use Rattle.rules.specs.Calls.{called}
use Rattle.laws.specs.Laws.{Numbered}

-- the number of the code that comes back
abbrev pub number : Step → ℕ
number k = number_of k.code

-- what comes back from a macro
abbrev pub issued : Setup → ℕ → State → Macro → Step
issued b room s m = called b s (Issues m) room

-- the task r has the processor, and the sheet is large enough
pub record Issuer (s : State) (r room : ℕ) : Type 0 where
  pub task : 0 < r
  pub first : running s.tasks ≡ r
  pub sheet : 100 ≤ room

-- the level of the oldest of t's entries, which is its current start
abbrev pub current_level : ℕ → List Entry → ℕ
current_level t [] = 0
current_level t (e ∷ es) = cond (of? t e) e.level (current_level t es)

-- ---- a delay of the longest wait, and of waits out of range
-- the issuer r sleeps for n milliseconds from now on
pub record Sleeps (s : State) (r n : ℕ) (k : Step) : Type 0 where
  pub answer : number k ≡ 0
  pub asleep : k.state.tasks.roll.entries ≡ marking true r s.tasks.roll.entries
  pub waits : k.state.timers ≡ s.timers ++ (delay_place r n ∷ [])

-- a field out of range: all starts of the issuer r are cut
pub record CutOff (s : State) (r : ℕ) (k : Step) : Type 0 where
  pub answer : number k ≡ 12
  pub told : k.told ≡ cut_events s.tasks r ++ (event Runs (running k.state.tasks) ∷ [])
  pub cleared : k.state.tasks.roll.entries ≡ cleared r s.tasks.roll.entries
  pub dormant : k.state.tasks.released r ≡ false

pub record DelayLimits (b : Setup) (s : State) (r room : ℕ) : Type 0 where
  pub longest : length s.timers < 64 → Sleeps s r 86400000 (issued b room s (Delay 86400000))
  pub none : CutOff s r (issued b room s (Delay 0))
  pub over : CutOff s r (issued b room s (Delay 86400001))

-- ---- three queues of a task that has no start
-- t may be queued, has no start, and its level is worse than that of r's current start
pub record Behind (b : Setup) (s : State) (r t : ℕ) : Type 0 where
  pub task : task_field t ≡ true
  pub registered : b.registered t ≡ true
  pub released : s.tasks.released t ≡ true
  pub none : count_in t s.tasks.roll ≡ 0
  pub worse : current_level r s.tasks.roll.entries < s.tasks.level t

pub record Queued (t : ℕ) (one two three : Step) : Type 0 where
  pub first : number one ≡ 0
  pub first_told : one.told ≡ event Accepted t ∷ []
  pub second : number two ≡ 0
  pub second_told : two.told ≡ event Accepted t ∷ []
  pub third : number three ≡ 1
  pub third_told : three.told ≡ event Missed t ∷ []

-- the three steps, with the factor x
abbrev pub QueueTwice : Setup → State → ℕ → ℕ → ℕ → Type 0
QueueTwice b s room t x =
    Queued t
    (issued b room s (Queue t x))
    (issued b room (issued b room s (Queue t x)).state (Queue t x))
    (issued b room (issued b room (issued b room s (Queue t x)).state (Queue t x)).state (Queue t x))

-- ---- abort of a task with two starts
pub record TwoCuts (b : Setup) (s : State) (r t room : ℕ) : Type 0 where
  pub answer : number (issued b room s (Abort t)) ≡ 0
  pub told : (issued b room s (Abort t)).told ≡ event Cut t ∷ (event Cut t ∷ turn r (t == r) (running (issued b room s (Abort t)).state.tasks))

-- ---- coils out of range, and of a task that no book can have
pub record CoilNumbers (b : Setup) (s : State) (room : ℕ) : Type 0 where
  pub nought : number (called b s (Coil 0) room) ≡ 13
  pub beyond : Numbered b → number (called b s (Coil 128) room) ≡ 4

-- ---- the issuer takes its factors, the smallest first
pub record FactorsTaken (one two three : Step) : Type 0 where
  pub answers : (number one ≡ 0) × (number two ≡ 0) × (number three ≡ 0)
  pub first : one.factor ≡ 3
  pub second : two.factor ≡ 5
  pub third : three.factor ≡ 0

abbrev pub Factors : Setup → State → ℕ → Type 0
Factors b s room =
    FactorsTaken
    (issued b room s Gfact)
    (issued b room (issued b room s Gfact).state Gfact)
    (issued b room (issued b room (issued b room s Gfact).state Gfact).state Gfact)

-- ---- a roused task has the age of its start
-- the tasks 3 and 4 alone on the roll, both of level 2, 3 the older; nobody is held, and no timer or wake stands
pub record Pair (s : State) : Type 0 where
  pub entries : s.tasks.roll.entries ≡ awake 3 2 ∷ (awake 4 2 ∷ [])
  pub free : s.tasks.roll.held ≡ none
  pub timers : s.timers ≡ []
  pub wakes : s.wakes ≡ []

-- a delay of 3, and the tick behind it
pub record KeepsAge (delay tick : Step) : Type 0 where
  pub answer : number delay ≡ 0
  pub gives : delay.told ≡ event Runs 4 ∷ []
  pub back : tick.told ≡ event Wakened 3 ∷ (event Runs 3 ∷ [])

-- ---- the timer table filled, and freed by a cancel
pub record Filled (last over cancel again : Step) : Type 0 where
  pub accepted : number last ≡ 0
  pub full : number over ≡ 1
  pub cancelled : number cancel ≡ 0
  pub freed : number again ≡ 0

-- a timer m twice, a cancel d, and m again
abbrev pub FullTable : Setup → State → ℕ → Macro → Macro → Type 0
FullTable b s room m d =
    Filled
    (issued b room s m)
    (issued b room (issued b room s m).state m)
    (issued b room (issued b room (issued b room s m).state m).state d)
    (issued b room (issued b room (issued b room (issued b room s m).state m).state d).state m)

-- ---- a wake at midnight
-- the state after so many ticks
unfoldable pub after_ticks : ℕ → State → State
after_ticks zero s = s
after_ticks (suc n) s = ticked (after_ticks n s)

-- what the wakes fire at the next tick
abbrev pub rung : State → List Firing
rung s = wake_firings (reached s) s.wakes

-- a wake of t with the factor x fires at tick 86,400,000, and at none before it
pub record Midnight (s : State) (t x : ℕ) : Type 0 where
  pub before : (n : ℕ) → n < 86399999 → rung (after_ticks n s) ≡ []
  pub fires : rung (after_ticks 86399999 s) ≡ Start t x ∷ []

-- ---- what stays
-- but for the mark of sleep the entries are as they were, each in its place
pub record RousedKeepsPlace (s : Tasks) (t : ℕ) : Type 0 where
  pub place : map (marked false) (fired s (Rouse t)).roll.entries ≡ map (marked false) s.roll.entries
  pub held : (fired s (Rouse t)).roll.held ≡ s.roll.held

-- a timer of t between others: it waits its cycle c again where it stood, and t misses a start
pub record CyclicStays (s : State) (t x c : ℕ) (before after : List TimerPlace) (k : Step) : Type 0 where
  pub stays : k.state.timers ≡ lefts timer_after before ++ (timer_place t x c c ∷ lefts timer_after after)
  pub missed : (rest : List Event) × (k.told ≡ all_told fired tells s.tasks (firings timer_fires before) ++ (event Missed t ∷ rest))

-- an entry that is no delay of t
abbrev pub not_delay_of : ℕ → TimerPlace → Bool
not_delay_of t p = not (p.delay && p.task == t)

pub record AbortKeeps (s : State) (t : ℕ) (k : Step) : Type 0 where
  pub timers : filter (not_delay_of t) k.state.timers ≡ filter (not_delay_of t) s.timers
  pub wakes : k.state.wakes ≡ s.wakes

-- with a sheet of at least 100 records
pub record Edges : Type 0 where
  pub delay_limits : (b : Setup) (s : State) (r room : ℕ) → Issuer s r room → DelayLimits b s r room
  pub queue_twice : (b : Setup) (s : State) (r t x room : ℕ) → Issuer s r room → Behind b s r t → x ≤ 16 → QueueTwice b s room t x
  -- 3 and 5 are set for the issuer, and no other
  pub factors : (b : Setup) (s : State) (r room : ℕ) → Issuer s r room → ((x : ℕ) → s.tasks.factors r x ≡ (x == 3 || x == 5)) → Factors b s room
  pub keeps_age : (b : Setup) (s : State) (room : ℕ) → 100 ≤ room → Pair s → KeepsAge (issued b room s (Delay 1)) (called b (issued b room s (Delay 1)).state Tick room)
  -- the cancel finds a timer in the full table
  pub full_table : (b : Setup) (s : State) (r t n c x u y room : ℕ) → Issuer s r room → b.registered t ≡ true → in_range (Timer t n c x) ≡ true → in_range (Ctime u y) ≡ true
      → length s.timers ≡ 63
      → no_timer (issued b room (issued b room s (Timer t n c x)).state (Timer t n c x)).state u y ≡ false
      → FullTable b s room (Timer t n c x) (Ctime u y)
  pub two_cuts : (b : Setup) (s : State) (r t room : ℕ) → Issuer s r room → task_field t ≡ true → b.registered t ≡ true → count_in t s.tasks.roll ≡ 2 → TwoCuts b s r t room
  pub coil_numbers : (b : Setup) (s : State) (room : ℕ) → 100 ≤ room → CoilNumbers b s room
  -- at clock 0, whatever the cycle c; and each tick of a station is such a one
  pub midnight_wake : (s : State) (t x c : ℕ) → s.clock ≡ 0 → s.wakes ≡ waits_for t x 0 c ∷ [] → Midnight s t x
  pub ticks : (b : Setup) (s : State) (room : ℕ) → 100 ≤ room → (called b s Tick room).state ≡ ticked s
  pub roused_keeps_place : (s : Tasks) (t : ℕ) → RousedKeepsPlace s t
  -- t is dormant, and its cyclic timer is due
  pub cyclic_stays : (b : Setup) (s : State) (t x n c room : ℕ) (before after : List TimerPlace) → 100 ≤ room → s.tasks.released t ≡ false → n ≤ 1 → 0 < c
      → s.timers ≡ before ++ (timer_place t x n c ∷ after) → CyclicStays s t x c before after (called b s Tick room)
  pub abort_keeps_timers : (b : Setup) (s : State) (r t room : ℕ) → Issuer s r room → task_field t ≡ true → AbortKeeps s t (issued b room s (Abort t))
