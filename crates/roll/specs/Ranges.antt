-- The numbers that a roll knows.
use Rattle.std.specs.Prelude.{ℕ, Bool, ◌&&◌, nat_lt}

-- a task's number is 1 to 127
abbrev pub task? : ℕ → Bool
task? t = nat_lt 0 t && nat_lt t 128

-- a level is 0 (the best) to 4 (the last)
abbrev pub level? : ℕ → Bool
level? l = nat_lt l 5
