-- What is true of a stamped roll as it stands.
use Rattle.std.specs.Prelude.{◌≡◌, ℕ, ◌<◌, true, ◌&&◌}
use Rattle.std.proofs.Common.{arith}
use Rattle.std.proofs.lemmas.Bool.{and_parts, ltb-true}
use Rattle.roll.specs.Ranges.{task?, level?}
use Rattle.roll.proofs.Sounds.{task_range}
use Rattle.roll.specs.Entries.{count_of}
use Rattle.stamped.specs.Meaning.{meaning_of}
use Rattle.stamped.specs.declared.stamped_roll.Stamped.{Stamped}
use Rattle.stamped.specs.Counts.{Orderly}
use Rattle.stamped.specs.Writes.{within}

pub orderly_of : (s : Stamped) → Orderly s.slots s.next
orderly_of s = record { apart = s.apart; good = s.good }

-- a task with an entry has a slot
pub has_slot : (s : Stamped) (t : ℕ) → 0 < count_of t (meaning_of s).entries → t < 128
has_slot s t p = let lt = within s.next t s.slots (orderly_of s) p in omega (arith, s.whole)

pub in_range : (t l : ℕ) → (task? t && level? l) ≡ true → (0 < t) × (t < 128) × (l < 5)
in_range t l p =
    let q = and_parts (task? t) (level? l) p in
    let r = task_range t q.0 in
    (r.0, r.1, ltb-true l 5 q.1)
