-- What is true of a set of held tasks, and of what a lever means.
use Rattle.std.specs.Prelude.{◌≡◌, ℕ, zero, suc, ◌≤◌, Bool, true, false, get_or, replicate, nat_lt, slice_index_or, refl}
use Rattle.std.proofs.Common.{ap, ◌∙◌, inl, inr, arith}
use Rattle.std.proofs.Math.Path.{fun_ext}
use Rattle.std.proofs.lemmas.List.{get_or_past}
use Rattle.std.proofs.lemmas.Bool.{cases_lt, lt-ltb, and_from, both_ways}
use Rattle.roll.specs.Ranges.{task?}
use Rattle.roll.specs.Tables.{none}
use Rattle.roll.specs.Model.{Model, Sound}
use Rattle.lever.specs.Meaning.{members, over}
use Rattle.lever.specs.declared.holds.Holds.{Holds}

pub unmarked : (n : ℕ) → ◌≡◌ {A = ℕ → Bool} (λ t. get_or (replicate n false) t false) none
unmarked n = fun_ext (at n)
  where
    at : (n t : ℕ) → slice_index_or (replicate n false) t false ≡ false
    at zero t = refl
    at (suc n) zero = refl
    at (suc n) (suc t) = at n t

pub members_past : (h : Holds) (t : ℕ) → 128 ≤ t → members h t ≡ false
members_past h t p = get_or_past h.marks t false (omega (arith, h.whole))

pub members_task : (h : Holds) (t : ℕ) → members h t ≡ true → task? t ≡ true
members_task h t p =
    elim (cases_lt t 128) [
      | inl lt ↦
          elim (cases_lt 0 t) [
            | inl gt ↦ and_from (nat_lt 0 t) (nat_lt t 128) (lt-ltb 0 t gt) (lt-ltb t 128 lt)
            | inr le ↦ let z : t ≡ 0 = omega arith in absurd (both_ways (members h t) (ap (members h) z ∙ h.nobody) p)
          ]
      | inr ge ↦ absurd (both_ways (members h t) (members_past h t ge) p)
    ]

pub over_sound : (lever : Bool) (m : Model) (own : Holds) → Sound m → Sound (over lever m own)
over_sound true m own s = s
over_sound false m own s = (s.0, members_task own)
