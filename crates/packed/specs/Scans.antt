-- What the scans of a row of entries look for.
use Rattle.std.specs.Prelude.{cond, Some, Option}
use Rattle.roll.specs.Firsts.{better}
use Rattle.roll.specs.declared.entry.Entry.{Entry}

-- the best so far, with one more entry: one that is asleep does not count
abbrev pub taken : Option Entry → Entry → Option Entry
taken b e = cond e.asleep b (better b (Some e))
