use Rattle.std.specs.Prelude.{ℕ, List, take}
use Rattle.stamped.specs.declared.renumbering.Renumbering.{Renumbering}

-- the stamps that were noted, in the order in which they were
abbrev pub noted : Renumbering → List ℕ
noted r = take r.len r.stamps
