use Rattle.std.specs.Prelude.{List, take}
use Rattle.roll.specs.declared.entry.Entry.{Entry}
use Rattle.packed.specs.declared.row.Row.{Row}

-- the entries that a row holds, oldest first
abbrev pub row : Row → List Entry
row s = take s.len s.items
