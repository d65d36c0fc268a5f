-- Letters and their bytes.
use Rattle.std.proofs.Common.{◌≡◌, ℕ, Bool, true, false, cond, eqb, List, [], ◌∷◌, is_some, Some, None, Option, refl}
use Rattle.std.proofs.lemmas.Bool.{both_ways, eqb-true}
use Rattle.book.specs.declared.letters.Letter.{Letter}
use Rattle.book.specs.declared.letters.Letter.TheVariants.{Rleas, Queue, Abort, Delay, Timer, Ctime, Chap, Sfact, Gfact, Susp, Rsum, Wake, Cwake, Stime, Exit, Jump}
use Rattle.book.specs.Letters.{byte_of, letters, spelt, letter_of, known}

-- each letter is that of its byte
pub letter_of_byte : (x : Letter) → letter_of (byte_of x) ≡ Some x
letter_of_byte Rleas = refl
letter_of_byte Queue = refl
letter_of_byte Abort = refl
letter_of_byte Delay = refl
letter_of_byte Timer = refl
letter_of_byte Ctime = refl
letter_of_byte Chap = refl
letter_of_byte Sfact = refl
letter_of_byte Gfact = refl
letter_of_byte Susp = refl
letter_of_byte Rsum = refl
letter_of_byte Wake = refl
letter_of_byte Cwake = refl
letter_of_byte Stime = refl
letter_of_byte Exit = refl
letter_of_byte Jump = refl

-- and a byte that has a letter is that letter's
spelt_more : (n : ℕ) (x y : Letter) (xs : List Letter) (t : Bool) → eqb n (byte_of y) ≡ t → (spelt n xs ≡ Some x → n ≡ byte_of x) → cond t (Some y) (spelt n xs) ≡ Some x → n ≡ byte_of x
spelt_more n x y xs true w h e = let q : y ≡ x = cc in rw (← q) (eqb-true n (byte_of y) w)
spelt_more n x y xs false w h e = h e

spelt_byte : (n : ℕ) (x : Letter) (xs : List Letter) → spelt n xs ≡ Some x → n ≡ byte_of x
spelt_byte n x [] e = absurd (cc)
spelt_byte n x (y ∷ ys) e = spelt_more n x y ys (eqb n (byte_of y)) refl (spelt_byte n x ys) e

pub byte_of_letter : (n : ℕ) (x : Letter) → letter_of n ≡ Some x → n ≡ byte_of x
byte_of_letter n x e = spelt_byte n x letters e

-- a known byte has a letter
known_by : (o : Option Letter) → is_some o ≡ true → (x : Letter) × (o ≡ Some x)
known_by None e = absurd (both_ways false refl e)
known_by (Some x) e = (x, refl)

pub known_letter : (n : ℕ) → known n ≡ true → (x : Letter) × (letter_of n ≡ Some x)
known_letter n e = known_by (letter_of n) e
