use Rattle.std.specs.Prelude.{ℕ, Bool, false, cond, slice_index_or}
use Rattle.roll.specs.Model.{Model}
use Rattle.lever.specs.declared.holds.Holds.{Holds}

-- the set that the marks stand for, as its membership test
abbrev pub members : Holds → ℕ → Bool
members h t = slice_index_or h.marks t false

-- What a lever means: the entries of the roll below it, and as held tasks those of the roll below if that has a lever, else those of its own set.
abbrev pub over : Bool → Model → Holds → Model
over lever below own = record { entries = below.entries; held = cond lever below.held (members own) }
