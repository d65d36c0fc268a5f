-- The three laws of a station, over its history alone and what its book says.
use Rattle.std.specs.Prelude.{◌≡◌, ℕ, zero, suc, ◌+◌, ◌-◌, ◌<◌, ◌≤◌, Bool, true, false, cond, not, ◌&&◌, ◌||◌, ◌⊎◌, List, [], ◌∷◌, Some, None, Option, ◌==◌, nat_lt}
use Rattle.sheet.specs.declared.event.Event.{Event}
use Rattle.sheet.specs.declared.event.Kind.{Kind}
use Rattle.sheet.specs.declared.event.Kind.TheVariants.{Accepted, Missed, Ended, Cut, Wakened, Runs}
use Rattle.roll.specs.Model.{first_in, count_in}
use Rattle.rules.specs.declared.call.Call.{Call}
use Rattle.rules.specs.declared.call.Call.TheVariants.{Macro as Issues}
use Rattle.rules.specs.declared.call.Macro.TheVariants.{Delay, Timer}
use Rattle.rules.specs.State.{Setup, State}
use Rattle.laws.specs.Histories.{Seen, History, History.powered, History.then, Reached, events}
use Rattle.laws.specs.Asks.{Verb.tick, Verb.delay, Verb.timer, Verb.ctime, Verb.chap, Verb.susp, Verb.rsum, of, number, does, does_to, aborts}

-- Events.

-- a number for each kind, by which they are told apart
abbrev pub kind_number : Kind → ℕ
kind_number Accepted = 0
kind_number Missed = 1
kind_number Ended = 2
kind_number Cut = 3
kind_number Wakened = 4
kind_number Runs = 5

abbrev pub is_of : Kind → Event → Bool
is_of k e = kind_number e.kind == kind_number k

abbrev pub one : Bool → ℕ
one b = cond b 1 0

-- how many events of a kind there are of the task t
abbrev pub tally : Kind → ℕ → List Event → ℕ
tally k t [] = 0
tally k t (e ∷ es) = one (is_of k e && e.task == t) + tally k t es

-- how many were told
abbrev pub tells : Kind → ℕ → History → ℕ
tells k t h = tally k t (events h)

-- the task of the last `runs`, and r before the first
abbrev pub last_runs : ℕ → List Event → ℕ
last_runs r [] = r
last_runs r (e ∷ es) = last_runs (cond (is_of Runs e) e.task r) es

-- the task with the processor; 0 means idle
abbrev pub running : History → ℕ
running h = last_runs 0 (events h)

-- Starts.

-- how many starts of t have finished
abbrev pub finishes : ℕ → History → ℕ
finishes t h = tells Ended t h + tells Cut t h

-- the place of the `accepted` event of t that k others of t went before, where the first event has the place n
abbrev pub place : ℕ → ℕ → ℕ → List Event → ℕ
place t k n [] = n
place t k n (e ∷ es) = cond (is_of Accepted e && e.task == t) (cond (k == 0) n (place t (k - 1) (suc n) es)) (place t k (suc n) es)

-- the age of t's current start, which is its oldest accepted one that has not finished
abbrev pub age : ℕ → History → ℕ
age t h = place t (finishes t h) 0 (events h)

-- Levels and holds.

-- the present level of t: that of the last obeyed chap since it was last aborted, or else the written one
abbrev pub level : Setup → ℕ → History → ℕ
level b t powered = b.written t
level b t (then h e) = cond (aborts (running h) t e) (b.written t) (cond (does_to chap t e) (of e).x (level b t h))

-- t is held: an obeyed susp, and since then no obeyed rsum and no abort
abbrev pub held : ℕ → History → Bool
held t powered = false
held t (then h e) = cond (aborts (running h) t e || does_to rsum t e) false (does_to susp t e || held t h)

-- Timers and delays, by what came later.

-- how many ticks were obeyed
abbrev pub ticks : List Seen → ℕ
ticks [] = 0
ticks (e ∷ es) = one (does tick e) + ticks es

-- a start of t was cut
abbrev pub cuts : ℕ → List Seen → Bool
cuts t [] = false
cuts t (e ∷ es) = nat_lt 0 (tally Cut t e.told) || cuts t es

-- a ctime of the task t and the factor x was obeyed
abbrev pub cancels : ℕ → ℕ → List Seen → Bool
cancels t x [] = false
cancels t x (e ∷ es) = (does_to ctime t e && (of e).x == x) || cancels t x es

-- the call e of the task r was an obeyed delay that is not over and whose start is not cut
abbrev pub sleeps : ℕ → Seen → List Seen → Bool
sleeps r e later = does delay e && (not (cuts r later) && nat_lt (ticks later) (of e).wait)

-- e was an obeyed timer that is not cancelled, and has a cycle or has not fired
abbrev pub stands : Seen → List Seen → Bool
stands e later = does timer e && (not (cancels (of e).task (of e).x later) && (nat_lt 0 (of e).cycle || nat_lt (ticks later) (of e).wait))

-- how many timers and delays of h are live, when `later` came after it
abbrev pub live : History → List Seen → ℕ
live powered later = 0
live (then h e) later = live h (e ∷ later) + (one (stands e later) + one (sleeps (running h) e later))

-- t is asleep by a delay of h, when `later` came after it
abbrev pub asleep : ℕ → History → List Seen → Bool
asleep t powered later = false
asleep t (then h e) later = asleep t h (e ∷ later) || (running h == t && sleeps (running h) e later)

-- The laws.

-- t has an unfinished start, is awake and not held
pub record Ready (h : History) (t : ℕ) : Type 0 where
  pub starts : finishes t h < tells Accepted t h
  pub wakes : asleep t h [] ≡ false
  pub free : held t h ≡ false

-- t goes before u or is u: by the better level, and at one level by the older current start
abbrev pub Before : Setup → History → ℕ → ℕ → Type 0
Before b h t u = (level b t h < level b u h) ⊎ ((level b t h ≡ level b u h) × (age t h ≤ age u h))

-- t is the best of the tasks that are ready; 0 says that none is
abbrev pub Chosen : Setup → History → ℕ → Type 0
Chosen b h zero = (t : ℕ) → Ready h t → ⊥
Chosen b h (suc r) = Ready h (suc r) × ((t : ℕ) → Ready h t → Before b h (suc r) t)

-- a delay or a timer with every field in range, the timer for a registered task
pub data Sets (b : Setup) : Call → Type 0 where
  delays : {n : ℕ} → 1 ≤ n → n ≤ 86400000 → Sets b (Issues (Delay n))
  times : {t n c x : ℕ} → b.registered t ≡ true → 1 ≤ n → n ≤ 86400000 → c ≤ 86400000 → x ≤ 16 → Sets b (Issues (Timer t n c x))

-- e is a timer or a delay that passes every check before that of the table: the sheet is long enough, and a task has the processor
pub record Tries (b : Setup) (h : History) (e : Seen) : Type 0 where
  pub sheet : 100 ≤ e.room
  pub issuer : 0 < running h
  pub sets : Sets b e.call

-- such a call is answered full, which is 1, exactly when 64 earlier ones are live
abbrev pub Full : Setup → History → Type 0
Full b powered = Unit {0}
Full b (then h e) = Tries b h e → (number e ≡ 1 → live h [] ≡ 64) × (live h [] ≡ 64 → number e ≡ 1)

-- what the roll answers for the processor's task
abbrev pub holder : ℕ → Option ℕ
holder zero = None
holder (suc t) = Some (suc t)

pub record Laws (b : Setup) (h : History) (s : State) : Type 0 where
  -- every accepted start of a task was ended, was cut, or stands on the roll, where at most two do
  pub balance : (t : ℕ) → tells Accepted t h ≡ finishes t h + count_in t s.tasks.roll
  pub two : (t : ℕ) → count_in t s.tasks.roll ≤ 2
  -- the last `runs` names the roll's first, and it is the best of those that are ready
  pub answers : first_in s.tasks.roll ≡ holder (running h)
  pub chosen : Chosen b h (running h)
  -- the table of timers and delays is said to be full when it is
  pub full : Full b h

-- the registered tasks have numbers from 1 to 127
abbrev pub Numbered : Setup → Type 0
Numbered b = (t : ℕ) → b.registered t ≡ true → (1 ≤ t) × (t ≤ 127)

-- whatever was asked since power-up, the laws hold
abbrev pub Always : Setup → Type 0
Always b = (h : History) (s : State) → Reached b h s → Laws b h s
