use Rattle.roll.specs.Tables.{none}
use Rattle.roll.specs.Model.{Model}
use Rattle.packed.specs.Rows.{row}
use Rattle.packed.specs.declared.packed_roll.Packed.{Packed}

-- a packed roll means its row of entries, with nobody held
abbrev pub meaning_of : Packed → Model
meaning_of s = record { entries = row s.entries; held = none }
