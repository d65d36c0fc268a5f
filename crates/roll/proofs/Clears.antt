-- Where no task has more than two entries, to end one twice is to clear it.
use Rattle.std.proofs.Common.{◌≡◌, ℕ, ◌+◌, ◌-◌, ◌≤◌, Bool, true, false, ltb, List, sym, refl, ap, arith}
use mir.Val.{bool_byte}
use Rattle.std.proofs.lemmas.Bool.Decides.{nat_tests}
use Rattle.std.proofs.lemmas.Bool.{eq-eqb}
use Rattle.roll.specs.Entries.{count_of, ended, cleared, SoundList}
use Rattle.roll.specs.declared.entry.Entry.{Entry}
use Rattle.roll.proofs.Counts.{cleared_twice, count_ended}

-- of at most two, whether there is one and whether there is another
one_and_two : (n : ℕ) (one two : Bool) → n ≤ 2 → one ≡ ltb 0 n → two ≡ ltb 0 (n - 1) → bool_byte one + bool_byte two ≡ n
one_and_two n true true few p q = grind (arith, nat_tests)
one_and_two n true false few p q = grind (arith, nat_tests)
one_and_two n false true few p q = grind (arith, nat_tests)
one_and_two n false false few p q = grind (arith, nat_tests)

-- whether one could be ended, and whether another could, tell how many there were
pub both_ended : (t : ℕ) (es : List Entry) → SoundList es → bool_byte (ltb 0 (count_of t es)) + bool_byte (ltb 0 (count_of t (ended t es))) ≡ count_of t es
both_ended t es s =
    let left : count_of t (ended t es) ≡ count_of t es - 1 = rw (eq-eqb t t refl) at (count_ended t t es) in
    one_and_two (count_of t es) (ltb 0 (count_of t es)) (ltb 0 (count_of t (ended t es))) (s.1 t) refl (ap (ltb 0) left)

pub ended_twice : (t : ℕ) (es : List Entry) → SoundList es → ended t (ended t es) ≡ cleared t es
ended_twice t es s = sym (cleared_twice t es (s.1 t))
