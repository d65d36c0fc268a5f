-- The slots of a stamped roll, and the entries that they stand for.
use Rattle.std.specs.Prelude.{ℕ, zero, suc, Bool, true, cond, ◌&&◌, List, [], ◌∷◌, ◌++◌, Some, None, Option, ◌==◌, nat_lt}
use Rattle.roll.specs.Ranges.{level?}
use Rattle.roll.specs.declared.entry.Entry.{Entry}
use Rattle.stamped.specs.declared.slot.Start.{Start}
use Rattle.stamped.specs.declared.slot.Slot.{Slot}
use Rattle.stamped.specs.declared.slot.Slot.TheVariants.{Empty, One, Two}

-- ---- the meaning
-- the entry that a start in the slot of t stands for
abbrev pub entry_of : ℕ → Start → Entry
entry_of t a = record { task = t; level = a.level; asleep = a.asleep }

-- the entry of a start in the slot of t if it has the stamp k
abbrev pub of_start : ℕ → ℕ → Start → List Entry
of_start k t a = cond (a.stamp == k) (entry_of t a ∷ []) []

-- the entries with the stamp k in the slot of t
abbrev pub of_slot : ℕ → ℕ → Slot → List Entry
of_slot k t Empty = []
of_slot k t (One a) = of_start k t a
of_slot k t (Two a b) = of_start k t a ++ of_start k t b

-- the entries with the stamp k in the slots of t, t + 1, ..
abbrev pub of_slots : ℕ → ℕ → List Slot → List Entry
of_slots k t [] = []
of_slots k t (x ∷ xs) = of_slot k t x ++ of_slots k (suc t) xs

-- F 0, F 1, .. F (n - 1), one after another
abbrev pub upto : (ℕ → List Entry) → ℕ → List Entry
upto F zero = []
upto F (suc n) = upto F n ++ F n

-- the entries with stamps below n, in order of their stamps; the first slot is that of 0
abbrev pub listed : List Slot → ℕ → List Entry
listed xs n = upto (λ k. of_slots k 0 xs) n

-- What holds of the slot of t where all stamps are below n: there is no task 0, the first start has the smaller stamp, and levels are in range.
abbrev pub good? : ℕ → ℕ → Slot → Bool
good? n t Empty = true
good? n t (One a) = nat_lt 0 t && (nat_lt a.stamp n && level? a.level)
good? n t (Two a b) = (nat_lt 0 t && (nat_lt a.stamp b.stamp && nat_lt b.stamp n)) && (level? a.level && level? b.level)

-- ---- what is done with one slot
-- how many starts there are
abbrev pub size : Slot → ℕ
size Empty = 0
size (One a) = 1
size (Two a b) = 2

abbrev pub live_start : Start → Option Start
live_start a = cond a.asleep None (Some a)

-- the oldest start, if it is awake
abbrev pub live_of : Slot → Option Start
live_of Empty = None
live_of (One a) = live_start a
live_of (Two a b) = live_start a

-- without the oldest start
abbrev pub ended_slot : Slot → Slot
ended_slot Empty = Empty
ended_slot (One a) = Empty
ended_slot (Two a b) = One b

abbrev pub marked_start : Bool → Start → Start
marked_start m a = record { stamp = a.stamp; level = a.level; asleep = m }

-- with the mark m on the oldest start
abbrev pub marked_slot : Bool → Slot → Slot
marked_slot m Empty = Empty
marked_slot m (One a) = One (marked_start m a)
marked_slot m (Two a b) = Two (marked_start m a) b

abbrev pub levelled_start : ℕ → Start → Start
levelled_start l a = record { stamp = a.stamp; level = l; asleep = a.asleep }

-- with the level l at every start
abbrev pub levelled_slot : ℕ → Slot → Slot
levelled_slot l Empty = Empty
levelled_slot l (One a) = One (levelled_start l a)
levelled_slot l (Two a b) = Two (levelled_start l a) (levelled_start l b)

-- with one start more, the youngest; a full slot stays
abbrev pub pushed_slot : Start → Slot → Slot
pushed_slot x Empty = One x
pushed_slot x (One a) = Two a x
pushed_slot x (Two a b) = Two a b
