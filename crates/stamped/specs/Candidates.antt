-- Which start is first.
use Rattle.std.specs.Prelude.{◌≡◌, ℕ, ◌+◌, ◌*◌, ◌<◌, ◌≤◌, cond, List, Some, None, Option, nat_lt, slice_index_or}
use Rattle.stamped.specs.declared.slot.Start.{Start}
use Rattle.stamped.specs.declared.slot.Slot.{Slot}
use Rattle.stamped.specs.declared.slot.Slot.TheVariants.{Empty}
use Rattle.stamped.specs.declared.candidate.Candidate.{Candidate}
use Rattle.stamped.specs.Slots.{live_of}

-- by the level, then by the stamp, which is at most 65535
abbrev pub rank : Start → ℕ
rank a = 65536 * a.level + a.stamp

-- the one with the smaller rank, and the best so far if they have the same
abbrev pub preferred : Option Candidate → Candidate → Option Candidate
preferred None p = Some p
preferred (Some q) p = cond (nat_lt (rank p.start) (rank q.start)) (Some p) (Some q)

-- the task whose start it is
abbrev pub owner_of : Option Candidate → Option ℕ
owner_of None = None
owner_of (Some p) = Some p.task

-- the candidate with the least rank of the first i slots
abbrev pub Least : List Slot → ℕ → Option Candidate → Type 0
Least xs i None = (u : ℕ) → u < i → live_of (slice_index_or xs u Empty) ≡ None
Least xs i (Some p) = (live_of (slice_index_or xs p.task Empty) ≡ Some p.start) × ((u : ℕ) → u < i → (a : Start) → live_of (slice_index_or xs u Empty) ≡ Some a → rank p.start ≤ rank a) × (p.task < i)
