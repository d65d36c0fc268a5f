-- The ranges of what a call is handed.
use Rattle.std.specs.Prelude.{ℕ, Bool, true, ◌&&◌, nat_le, nat_lt}
use Rattle.rules.specs.declared.call.Macro.{Macro}
use Rattle.rules.specs.declared.call.Macro.TheVariants.{Rleas, Queue, Abort, Delay, Timer, Ctime, Chap, Sfact, Gfact, Susp, Rsum, Wake, Cwake, Stime, Exit}

-- the least number of records that a sheet must have
abbrev pub least_sheet : ℕ
least_sheet = 100

-- a task field is 1 to 128, a factor 0 to 16, a level 0 to 4
abbrev pub task_field : ℕ → Bool
task_field t = nat_le 1 t && nat_le t 128

abbrev pub factor_field : ℕ → Bool
factor_field x = nat_le x 16

abbrev pub level_field : ℕ → Bool
level_field l = nat_le l 4

-- a wait is 1 to 86,400,000 ms, a timer's cycle 0 to 86,400,000 ms
abbrev pub wait_field : ℕ → Bool
wait_field t = nat_le 1 t && nat_le t 86400000

abbrev pub cycle_field : ℕ → Bool
cycle_field c = nat_le c 86400000

-- a second of the day is below 86,400, a wake's cycle 0 to 86,400 s
abbrev pub second_field : ℕ → Bool
second_field n = nat_lt n 86400

abbrev pub wake_cycle_field : ℕ → Bool
wake_cycle_field c = nat_le c 86400

-- every field of the macro is in its range
abbrev pub in_range : Macro → Bool
in_range (Rleas t) = task_field t
in_range (Queue t x) = task_field t && factor_field x
in_range (Abort t) = task_field t
in_range (Delay n) = wait_field n
in_range (Timer t n c x) = task_field t && (wait_field n && (cycle_field c && factor_field x))
in_range (Ctime t x) = task_field t && factor_field x
in_range (Chap t l) = task_field t && level_field l
in_range (Sfact t x) = task_field t && factor_field x
in_range Gfact = true
in_range (Susp t) = task_field t
in_range (Rsum t) = task_field t
in_range (Wake t x n c) = task_field t && (factor_field x && (second_field n && wake_cycle_field c))
in_range (Cwake t x) = task_field t && factor_field x
in_range (Stime n) = second_field n
in_range Exit = true
