use Rattle.std.specs.Prelude.{ℕ, cond, length, nat_lt}
use Rattle.roll.specs.Tables.{none}
use Rattle.roll.specs.Model.{Model}
use Rattle.stamped.specs.Slots.{listed}
use Rattle.stamped.specs.declared.stamped_roll.Stamped.{Stamped}

-- a stamped roll means its entries in order of their stamps, with nobody held
abbrev pub meaning_of : Stamped → Model
meaning_of s = record { entries = listed s.slots s.next; held = none }

-- The stamp of a new entry: the next, if it is at most 65535. If it is not, all are renumbered, and it is the number of entries.
abbrev pub stamp_for : Stamped → ℕ
stamp_for s = cond (nat_lt s.next 65536) s.next (length (meaning_of s).entries)
