-- The clock of the day.
use Rattle.std.specs.Prelude.{ℕ, ◌+◌, ◌*◌, ◌/◌, ◌%◌, cond, Some, None, Option, ◌==◌, nat_lt}

-- the millisecond of the day after this one: after 86,399,999 comes 0
abbrev pub next_milli : ℕ → ℕ
next_milli ms = (ms + 1) % 86400000

-- the second of the day that begins with this millisecond, if one does
abbrev pub full_second : ℕ → Option ℕ
full_second ms = cond (ms % 1000 == 0) (Some (ms / 1000)) None

-- the millisecond at which a second of the day begins
abbrev pub second_set : ℕ → ℕ → ℕ
second_set second ms = cond (nat_lt second 86400) (second * 1000) ms
