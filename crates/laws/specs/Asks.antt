-- What a call asked for, as far as the laws speak of it, and whether it was obeyed.
use Rattle.std.specs.Prelude.{ℕ, Bool, ◌&&◌, ◌||◌, ◌==◌}
use Rattle.rules.specs.declared.call.Call.{Call}
use Rattle.rules.specs.declared.call.Call.TheVariants.{Macro as Issues, Tick, Coil}
use Rattle.rules.specs.declared.call.Macro.{Macro}
use Rattle.rules.specs.declared.call.Macro.TheVariants.{Rleas, Queue, Abort, Delay, Timer, Ctime, Chap, Sfact, Gfact, Susp, Rsum, Wake, Cwake, Stime, Exit}
use Rattle.rules.specs.Codes.{number_of}
use Rattle.laws.specs.Histories.{Seen}

-- the calls that the laws name; all the others are one to them
pub data Verb : Type 0 where
  tick abort delay timer ctime chap susp rsum other : Verb

-- a number for each, by which they are told apart
abbrev pub ordinal : Verb → ℕ
ordinal tick = 0
ordinal abort = 1
ordinal delay = 2
ordinal timer = 3
ordinal ctime = 4
ordinal chap = 5
ordinal susp = 6
ordinal rsum = 7
ordinal other = 8

-- a call, field by field; x is the factor or the level, and a field that it does not have is 0
pub record Asked : Type 0 where
  pub verb : Verb
  pub task : ℕ
  pub x : ℕ
  pub wait : ℕ
  pub cycle : ℕ

abbrev pub asks : Verb → ℕ → ℕ → ℕ → ℕ → Asked
asks v t x n c = record { verb = v; task = t; x = x; wait = n; cycle = c }

abbrev pub asked_of : Macro → Asked
asked_of (Rleas t) = asks other t 0 0 0
asked_of (Queue t x) = asks other t x 0 0
asked_of (Abort t) = asks abort t 0 0 0
asked_of (Delay n) = asks delay 0 0 n 0
asked_of (Timer t n c x) = asks timer t x n c
asked_of (Ctime t x) = asks ctime t x 0 0
asked_of (Chap t l) = asks chap t l 0 0
asked_of (Sfact t x) = asks other t x 0 0
asked_of Gfact = asks other 0 0 0 0
asked_of (Susp t) = asks susp t 0 0 0
asked_of (Rsum t) = asks rsum t 0 0 0
asked_of (Wake t x n c) = asks other t x n c
asked_of (Cwake t x) = asks other t x 0 0
asked_of (Stime n) = asks other 0 0 n 0
asked_of Exit = asks other 0 0 0 0

abbrev pub asked : Call → Asked
asked (Issues m) = asked_of m
asked Tick = asks tick 0 0 0 0
asked (Coil t) = asks other t 0 0 0

-- the fields of a call that was seen, and the number that it was answered
abbrev pub of : Seen → Asked
of e = asked e.call

abbrev pub number : Seen → ℕ
number e = number_of e.answer.code

-- e was this call, and was obeyed
abbrev pub does : Verb → Seen → Bool
does v e = number e == 0 && ordinal (of e).verb == ordinal v

-- e was this call for the task t, and was obeyed
abbrev pub does_to : Verb → ℕ → Seen → Bool
does_to v t e = does v e && (of e).task == t

-- t is aborted in the call e, which the task r issued: by an obeyed abort, or since it issued a macro with a field out of range
abbrev pub aborts : ℕ → ℕ → Seen → Bool
aborts r t e = does_to abort t e || (number e == 12 && r == t)
