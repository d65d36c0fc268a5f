-- Entries, oldest first, and what is done with those of one task.
use Rattle.std.specs.Prelude.{◌≡◌, ℕ, suc, ◌≤◌, Bool, true, false, cond, not, ◌&&◌, List, [], ◌∷◌, map, filter, ◌==◌}
use Rattle.roll.specs.Ranges.{task?, level?}
use Rattle.roll.specs.declared.entry.Entry.{Entry}

-- whether the entry is one of the task t
abbrev pub of? : ℕ → Entry → Bool
of? t e = e.task == t

-- how many entries of t there are
abbrev pub count_of : ℕ → List Entry → ℕ
count_of t [] = 0
count_of t (e ∷ es) = cond (of? t e) (suc (count_of t es)) (count_of t es)

-- an awake entry
abbrev pub awake : ℕ → ℕ → Entry
awake t l = record { task = t; level = l; asleep = false }

-- the entry with the asleep mark b
abbrev pub marked : Bool → Entry → Entry
marked b e = record { task = e.task; level = e.level; asleep = b }

-- the entry with the level l
abbrev pub raised : ℕ → Entry → Entry
raised l e = record { task = e.task; level = l; asleep = e.asleep }

-- the entries without the oldest of t
abbrev pub ended : ℕ → List Entry → List Entry
ended t [] = []
ended t (e ∷ es) = cond (of? t e) es (e ∷ ended t es)

-- the entries with the mark b on the oldest of t
abbrev pub marking : Bool → ℕ → List Entry → List Entry
marking b t [] = []
marking b t (e ∷ es) = cond (of? t e) (marked b e ∷ es) (e ∷ marking b t es)

-- the entries without those of t
abbrev pub cleared : ℕ → List Entry → List Entry
cleared t es = filter (λ e. not (of? t e)) es

-- the entry with the level l if it is one of t
abbrev pub relevel : ℕ → ℕ → Entry → Entry
relevel t l e = cond (of? t e) (raised l e) e

-- the entries with the level l at each of t
abbrev pub levelled : ℕ → ℕ → List Entry → List Entry
levelled t l es = map (relevel t l) es

-- whether the entry has a task and a level in range
abbrev pub good? : Entry → Bool
good? e = task? e.task && level? e.level

abbrev pub all_good? : List Entry → Bool
all_good? [] = true
all_good? (e ∷ es) = good? e && all_good? es

-- Every entry has a task and a level in range, and no task has more than two entries.
abbrev pub SoundList : List Entry → Type 0
SoundList es = (all_good? es ≡ true) × ((t : ℕ) → count_of t es ≤ 2)
