-- The tasks and factors that an entry may name.
use Rattle.std.specs.Prelude.{ℕ, Bool, ◌&&◌, nat_le}

-- a task from 1 to 127 and a factor from 0 to 16
abbrev pub named? : ℕ → ℕ → Bool
named? task factor = nat_le 1 task && (nat_le task 127 && nat_le factor 16)
