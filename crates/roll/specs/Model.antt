-- What a roll means, and for each function when it is obeyed (may..) and what is left after it (after..).
use Rattle.std.specs.Prelude.{◌≡◌, ℕ, Bool, true, false, cond, not, ◌&&◌, List, [], ◌∷◌, ◌++◌, Ok, Err, Option, Result, nat_lt}
use Rattle.roll.specs.Ranges.{task?, level?}
use Rattle.roll.specs.Tables.{put, none}
use Rattle.roll.specs.Entries.{count_of, awake, ended, marking, cleared, levelled, SoundList}
use Rattle.roll.specs.Firsts.{first_of}
use Rattle.roll.specs.declared.entry.Entry.{Entry}
use Rattle.roll.specs.declared.entry.Refused.{Refused}

-- the entries, oldest first, and the set of held tasks as its membership test
pub record Model : Type 0 where
  pub entries : List Entry
  pub held : ℕ → Bool

-- no entry, and nobody held
abbrev pub empty : Model
empty = record { entries = []; held = none }

-- The entries are sound, and every held task is in range.
abbrev pub Sound : Model → Type 0
Sound m = SoundList m.entries × ((t : ℕ) → m.held t ≡ true → task? t ≡ true)

-- done where the test holds, refused where it does not
abbrev pub verdict : Bool → Result (Unit {0}) Refused
verdict true = Ok tt
verdict false = Err (record {})

-- the model with other entries
abbrev pub with : Model → List Entry → Model
with m es = record { entries = es; held = m.held }

-- A sound model has no entry of a task out of range: then count_in is 0, has_in is false, and to end, clear or mark changes nothing.
abbrev pub count_in : ℕ → Model → ℕ
count_in t m = count_of t m.entries

abbrev pub has_in : ℕ → Model → Bool
has_in t m = nat_lt 0 (count_in t m)

abbrev pub may_add : ℕ → ℕ → Model → Bool
may_add t l m = (task? t && level? l) && nat_lt (count_in t m) 2

abbrev pub after_add : ℕ → ℕ → Model → Model
after_add t l m = cond (may_add t l m) (with m (m.entries ++ awake t l ∷ [])) m

abbrev pub after_end : ℕ → Model → Model
after_end t m = with m (ended t m.entries)

abbrev pub after_clear : ℕ → Model → Model
after_clear t m = with m (cleared t m.entries)

abbrev pub after_sleep : ℕ → Model → Model
after_sleep t m = with m (marking true t m.entries)

abbrev pub after_rouse : ℕ → Model → Model
after_rouse t m = with m (marking false t m.entries)

abbrev pub may_level : ℕ → ℕ → Bool
may_level t l = task? t && level? l

abbrev pub after_level : ℕ → ℕ → Model → Model
after_level t l m = cond (may_level t l) (with m (levelled t l m.entries)) m

abbrev pub first_in : Model → Option ℕ
first_in m = first_of m.held m.entries

-- to hold takes a lever, and a task in range that is not held
abbrev pub may_hold : Bool → ℕ → Model → Bool
may_hold lever t m = lever && (task? t && not (m.held t))

abbrev pub after_hold : Bool → ℕ → Model → Model
after_hold lever t m = cond (may_hold lever t m) (record { entries = m.entries; held = put m.held t true }) m

-- to unhold takes a lever, and a task in range that is held
abbrev pub may_unhold : Bool → ℕ → Model → Bool
may_unhold lever t m = lever && (task? t && m.held t)

abbrev pub after_unhold : Bool → ℕ → Model → Model
after_unhold lever t m = cond (may_unhold lever t m) (record { entries = m.entries; held = put m.held t false }) m
