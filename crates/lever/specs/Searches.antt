use Rattle.std.specs.Prelude.{ℕ, List, [], ◌∷◌}
use Rattle.roll.specs.Model.{Model, after_rouse}

-- the tasks roused, the last of the list first
abbrev pub roused : List ℕ → Model → Model
roused [] m = m
roused (t ∷ ts) m = after_rouse t (roused ts m)
