-- New numbers for stamps.
use Rattle.std.specs.Prelude.{ℕ, suc, cond, List, [], ◌∷◌, ◌++◌, map, ◌==◌, nat_lt}
use Rattle.stamped.specs.declared.slot.Start.{Start}
use Rattle.stamped.specs.declared.slot.Slot.{Slot}
use Rattle.stamped.specs.declared.slot.Slot.TheVariants.{Empty, One, Two}

-- how many of the stamps are smaller than s
abbrev pub below : ℕ → List ℕ → ℕ
below s [] = 0
below s (x ∷ xs) = cond (nat_lt x s) (suc (below s xs)) (below s xs)

-- how often s is among the stamps
abbrev pub times_in : ℕ → List ℕ → ℕ
times_in s [] = 0
times_in s (x ∷ xs) = cond (x == s) (suc (times_in s xs)) (times_in s xs)

-- the stamps of a slot, and of a row of slots
abbrev pub stamps_of : Slot → List ℕ
stamps_of Empty = []
stamps_of (One a) = a.stamp ∷ []
stamps_of (Two a b) = a.stamp ∷ b.stamp ∷ []

abbrev pub stamps_in : List Slot → List ℕ
stamps_in [] = []
stamps_in (x ∷ xs) = stamps_of x ++ stamps_in xs

-- with f s in place of each stamp s, and nothing else changed
abbrev pub renumbered_start : (ℕ → ℕ) → Start → Start
renumbered_start f a = record { stamp = f a.stamp; level = a.level; asleep = a.asleep }

abbrev pub renumbered_slot : (ℕ → ℕ) → Slot → Slot
renumbered_slot f Empty = Empty
renumbered_slot f (One a) = One (renumbered_start f a)
renumbered_slot f (Two a b) = Two (renumbered_start f a) (renumbered_start f b)

-- A row of slots renumbered: each stamp becomes the number of smaller ones.
abbrev pub renumbered : List Slot → List Slot
renumbered xs = map (renumbered_slot (λ s. below s (stamps_in xs))) xs
