-- The letters of the instructions, each with its byte.
use Rattle.std.specs.Prelude.{◌≡◌, ℕ, Bool, cond, List, [], ◌∷◌, is_some, Some, None, Option, Result, ◌==◌, ◌≢◌}
use Rattle.std.specs.Option.{ok_or}
use Rattle.std.specs.Result.{result_ok}
use Rattle.book.specs.declared.letters.Letter.{Letter}
use Rattle.book.specs.declared.letters.Letter.TheVariants.{Rleas, Queue, Abort, Delay, Timer, Ctime, Chap, Sfact, Gfact, Susp, Rsum, Wake, Cwake, Stime, Exit, Jump}
use Rattle.book.specs.declared.letters.UnknownLetter.{UnknownLetter}

-- R Q A D T C P S G H U W K M X and J, as ASCII
abbrev pub byte_of : Letter → ℕ
byte_of Rleas = 82
byte_of Queue = 81
byte_of Abort = 65
byte_of Delay = 68
byte_of Timer = 84
byte_of Ctime = 67
byte_of Chap = 80
byte_of Sfact = 83
byte_of Gfact = 71
byte_of Susp = 72
byte_of Rsum = 85
byte_of Wake = 87
byte_of Cwake = 75
byte_of Stime = 77
byte_of Exit = 88
byte_of Jump = 74

abbrev pub letters : List Letter
letters =
    Rleas ∷ Queue ∷ Abort ∷ Delay ∷ Timer ∷ Ctime ∷ Chap ∷ Sfact
    ∷ Gfact ∷ Susp ∷ Rsum ∷ Wake ∷ Cwake ∷ Stime ∷ Exit ∷ Jump ∷ []

-- the letter among these whose byte n is
abbrev pub spelt : ℕ → List Letter → Option Letter
spelt n [] = None
spelt n (x ∷ xs) = cond (n == byte_of x) (Some x) (spelt n xs)

abbrev pub letter_of : ℕ → Option Letter
letter_of n = spelt n letters

-- n is the byte of some letter
abbrev pub known : ℕ → Bool
known n = is_some (letter_of n)

-- what `letter_of` answers for n is right: the letter of that byte, or none has it
abbrev pub Spells : ℕ → Option Letter → Type 0
Spells n None = (x : Letter) → byte_of x ≢ n
Spells n (Some x) = byte_of x ≡ n

-- what comes of reading byte n: the letter that it stands for, or the byte where it stands for none
pub record Reads (n : ℕ) (r : Result Letter UnknownLetter) : Type 0 where
  pub value : r ≡ ok_or (letter_of n) (record { 0 = n })
  pub right : Spells n (result_ok r)
