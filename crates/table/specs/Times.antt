-- When an entry that nobody cancels fires, counted in the beats since its acceptance: the next beat is number 1.
use Rattle.std.specs.Prelude.{◌≡◌, ℕ, zero, suc, ◌+◌, ◌*◌, ◌<◌, ◌≤◌, cond, List, [], ◌∷◌, ◌++◌, length, Some, None, Option, ◌≢◌, nat_lt}
use Rattle.table.specs.declared.firing.Firing.{Firing}
use Rattle.table.specs.declared.firing.Firing.TheVariants.{Start, Rouse}
use Rattle.table.specs.declared.timer.TimerPlace.{TimerPlace}
use Rattle.table.specs.declared.wake.Phase.{Phase}
use Rattle.table.specs.declared.wake.Phase.TheVariants.{Spent}
use Rattle.table.specs.declared.wake.WakePlace.{WakePlace}
use Rattle.table.specs.Rows.{lefts, firings, added}
use Rattle.table.specs.Timers.{timer_after, timer_fires, timer_place, delay_place, with_wait}
use Rattle.table.specs.Wakes.{wake_after, wake_fires, waits_for}

-- what f makes of what is left, if anything is
abbrev pub of_left : {X Y : Type 0} → (X → Option Y) → Option X → Option Y
of_left f (Some x) = f x
of_left f None = None

-- what is left of an entry after so many beats; `after n` is what its n-th beat makes of it
abbrev pub left_after : {P : Type 0} → (ℕ → P → Option P) → P → ℕ → Option P
left_after after p zero = Some p
left_after after p (suc n) = of_left (after (suc n)) (left_after after p n)

-- what it fires at its n-th beat
abbrev pub fired_at : {P : Type 0} → (ℕ → P → Option P) → (ℕ → P → Option Firing) → P → ℕ → Option Firing
fired_at after fires p zero = None
fired_at after fires p (suc n) = of_left (fires (suc n)) (left_after after p n)

abbrev pub timer_left : TimerPlace → ℕ → Option TimerPlace
timer_left p n = left_after (λ _. timer_after) p n

abbrev pub timer_fired : TimerPlace → ℕ → Option Firing
timer_fired p n = fired_at (λ _. timer_after) (λ _. timer_fires) p n

-- the same of a wake; `day n` is the time of day of its n-th beat
abbrev pub wake_left : (ℕ → ℕ) → WakePlace → ℕ → Option WakePlace
wake_left day p n = left_after (λ i. wake_after (day i)) p n

abbrev pub wake_fired : (ℕ → ℕ) → WakePlace → ℕ → Option Firing
wake_fired day p n = fired_at (λ i. wake_after (day i)) (λ i. wake_fires (day i)) p n

-- it fires f at the beats that are so, and nothing at any other
abbrev pub Exactly : (ℕ → Option Firing) → Firing → (ℕ → Type 0) → Type 0
Exactly fired f So = (n : ℕ) → (So n → fired n ≡ Some f) × ((So n → ⊥) → fired n ≡ None)

-- A timer with a cycle starts its task at the beats t, t + cycle, t + 2 * cycle and so on, and at no other.
abbrev pub KeepsTime : Type 0
KeepsTime =
    (task factor t cycle : ℕ) → 1 ≤ t → 1 ≤ cycle →
    Exactly (timer_fired (timer_place task factor t cycle)) (Start task factor) (λ n. (k : ℕ) × (n ≡ t + k * cycle))

-- it fires f at beat t and at no other, waits until then, and is gone from then on
abbrev pub Once : TimerPlace → ℕ → Firing → Type 0
Once p t f =
    Exactly (timer_fired p) f (λ n. n ≡ t)
    × ((n r : ℕ) → n + r ≡ t → 1 ≤ r → timer_left p n ≡ Some (with_wait p r))
    × ((n : ℕ) → t ≤ n → timer_left p n ≡ None)

-- A timer without a cycle starts its task at beat t and goes.
abbrev pub FiresOnce : Type 0
FiresOnce = (task factor t : ℕ) → 1 ≤ t → Once (timer_place task factor t 0) t (Start task factor)

-- A delay rouses its task at beat t and goes.
abbrev pub RousesOnce : Type 0
RousesOnce = (task t : ℕ) → 1 ≤ t → Once (delay_place task t) t (Rouse task)

-- beat n is the first with this time of day
abbrev pub FirstAt : (ℕ → ℕ) → ℕ → ℕ → Type 0
FirstAt day second n = (1 ≤ n) × (day n ≡ second) × ((m : ℕ) → 1 ≤ m → m < n → day m ≢ second)

-- none of the first n beats has this time of day
abbrev pub NotYet : (ℕ → ℕ) → ℕ → ℕ → Type 0
NotYet day second n = (m : ℕ) → 1 ≤ m → m ≤ n → day m ≢ second

-- the same wake in this phase
abbrev pub in_phase : WakePlace → Phase → WakePlace
in_phase p φ = record { task = p.task; factor = p.factor; second = p.second; cycle = p.cycle; phase = φ }

-- A wake without a cycle starts its task at the first beat with its second of the day, whatever the days' beats, and
-- never again; it keeps its place, waiting until then and spent from then on.
abbrev pub WakesOnce : Type 0
WakesOnce =
    (day : ℕ → ℕ) (task factor second : ℕ) →
    Exactly (wake_fired day (waits_for task factor second 0)) (Start task factor) (FirstAt day second)
    × ((n : ℕ) → NotYet day second n → wake_left day (waits_for task factor second 0) n ≡ Some (waits_for task factor second 0))
    × ((m n : ℕ) → FirstAt day second m → m ≤ n → wake_left day (waits_for task factor second 0) n ≡ Some (in_phase (waits_for task factor second 0) Spent))

-- A wake with a cycle starts its task at the first beat with its second of the day and at each cycle-th beat after it,
-- whatever times of day those have.
abbrev pub WakesOn : Type 0
WakesOn =
    (day : ℕ → ℕ) (task factor second cycle : ℕ) → 1 ≤ cycle →
    Exactly (wake_fired day (waits_for task factor second cycle)) (Start task factor) (λ n. (m : ℕ) × (k : ℕ) × FirstAt day second m × (n ≡ m + k * cycle))

-- Of the entries of a row, those accepted earlier fire earlier: what a row fires is what its older part fires, and
-- behind it what its younger part does.
abbrev pub InOrder : {P : Type 0} → (P → Option Firing) → Type 0
InOrder {P} fires = (older younger : List P) → firings fires (older ++ younger) ≡ firings fires older ++ firings fires younger

-- What comes to a table between two cancels: an entry that asks for a place, or a beat.
pub data Deed (P B : Type 0) : Type 0 where
  asks : P → Deed P B
  beats : B → Deed P B

module _ {P B : Type 0} (after : B → P → Option P) where
  -- the entries of a table with a place for everyone
  abbrev pub endless : List P → List (Deed P B) → List P
  endless es [] = es
  endless es (asks p ∷ ds) = endless (es ++ (p ∷ [])) ds
  endless es (beats b ∷ ds) = endless (lefts (after b) es) ds

  -- the entries of a table with so many places, and how many it refuses
  abbrev pub limited : ℕ → List P → List (Deed P B) → List P
  limited size es [] = es
  limited size es (asks p ∷ ds) = limited size (added size es p) ds
  limited size es (beats b ∷ ds) = limited size (lefts (after b) es) ds

  abbrev pub refusals : ℕ → List P → List (Deed P B) → ℕ
  refusals size es [] = 0
  refusals size es (asks p ∷ ds) = cond (nat_lt (length es) size) 0 1 + refusals size (added size es p) ds
  refusals size es (beats b ∷ ds) = refusals size (lefts (after b) es) ds

  -- at no time would more entries stand in the endless table than there are places
  abbrev pub Fits : ℕ → List P → List (Deed P B) → Type 0
  Fits size es [] = length es ≤ size
  Fits size es (asks p ∷ ds) = (length es ≤ size) × Fits size (es ++ (p ∷ [])) ds
  Fits size es (beats b ∷ ds) = (length es ≤ size) × Fits size (lefts (after b) es) ds

  -- As long as what stands fits into its places, a table refuses nothing, and holds what an endless one would; and where
  -- every place is taken it refuses.
  abbrev pub TakesWhatFits : Type 0
  TakesWhatFits =
      ((size : ℕ) (es : List P) (ds : List (Deed P B)) → Fits size es ds → (limited size es ds ≡ endless es ds) × (refusals size es ds ≡ 0))
      × ((size : ℕ) (es : List P) (p : P) → size ≤ length es → (refusals size es (asks p ∷ []) ≡ 1) × (limited size es (asks p ∷ []) ≡ es))
