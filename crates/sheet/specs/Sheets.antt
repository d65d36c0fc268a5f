-- What a sheet holds once events were told in it.
use Rattle.std.specs.Prelude.{List, ◌++◌, length, drop}

-- a sheet with these records at its front; those behind are what it held before
abbrev pub written : {X : Type 0} → List X → List X → List X
written told given = told ++ drop (length told) given
