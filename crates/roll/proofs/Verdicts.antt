-- What a roll's answer tells: done, or refused.
use Rattle.std.proofs.Common.{◌≡◌, ℕ, Bool, true, false, Ok, Err, Result, refl, arith}
use Rattle.std.specs.Result.{IsErr, is_ok}
use Rattle.std.proofs.lemmas.Bool.{both_ways}
use Rattle.roll.specs.Model.{verdict}
use Rattle.roll.specs.declared.entry.Refused.{Refused}

pub verdict_is : (b : Bool) → is_ok (verdict b) ≡ b
verdict_is true = refl
verdict_is false = refl

pub verdict_ok : (b : Bool) (u : Unit {0}) → verdict b ≡ Ok u → b ≡ true
verdict_ok true u p = refl
verdict_ok false u p = absurd (let z : ◌≡◌ {A = ℕ} 0 1 = cc in omega arith)

pub refused : (r : Result (Unit {0}) Refused) → IsErr r → r ≡ Err (record {})
refused (Ok x) p = absurd (both_ways false refl p)
refused (Err x) p = refl

pub verdict_err : (b : Bool) (x : Refused) → verdict b ≡ Err x → b ≡ false
verdict_err true x p = absurd (let z : ◌≡◌ {A = ℕ} 0 1 = cc in omega arith)
verdict_err false x p = refl
