-- How many stamps are smaller than one.
use Rattle.std.proofs.Common.{◌≡◌, ℕ, suc, ◌+◌, ◌*◌, ◌<◌, ◌≤◌, Bool, true, false, cond, eqb, ltb, List, [], ◌∷◌, ◌++◌, length, sym, refl, ap, ◌∙◌, inl, inr, append_assoc, arith}
use mir.Val.{bool_byte}
use Rattle.std.specs.List.{sum_by}
use Rattle.std.proofs.lemmas.Bool.Decides.{nat_tests}
use Rattle.std.proofs.lemmas.List.Recursion.{is_sum_by}
use Rattle.std.proofs.lemmas.List.{length-append, append-nil}
use Rattle.std.proofs.lemmas.Bool.{cases_order, eq-eqb, ne_eqb}
use Rattle.stamped.specs.declared.slot.Slot.{Slot}
use Rattle.stamped.specs.declared.slot.Slot.TheVariants.{Empty, One, Two}
use Rattle.stamped.specs.Numbers.{below, times_in, stamps_of, stamps_in}

-- ---- numbers
pub below_is : (s : ℕ) (xs : List ℕ) → sum_by (λ x. bool_byte (ltb x s)) xs ≡ below s xs
below_is s xs = sym (is_sum_by (below s) (λ x. bool_byte (ltb x s)) refl (λ x xs. one_more (ltb x s) (below s xs)) xs)
  where
    one_more : (b : Bool) (n : ℕ) → cond b (suc n) n ≡ bool_byte b + n
    one_more true n = omega arith
    one_more false n = omega arith

pub below_none : (xs : List ℕ) → below 0 xs ≡ 0
below_none [] = refl
below_none (x ∷ xs) = let h = below_none xs in grind (arith, nat_tests)

pub below_more : (s : ℕ) (xs : List ℕ) → below (suc s) xs ≡ below s xs + times_in s xs
below_more s [] = omega arith
below_more s (x ∷ xs) = let h = below_more s xs in grind (arith, nat_tests)

below_le : (s t : ℕ) (xs : List ℕ) → s ≤ t → below s xs ≤ below t xs
below_le s t [] le = omega arith
below_le s t (x ∷ xs) le = let h = below_le s t xs le in grind (arith, nat_tests)

pub below_length : (s : ℕ) (xs : List ℕ) → below s xs ≤ length xs
below_length s [] = omega arith
below_length s (x ∷ xs) = let h = below_length s xs in grind (arith, nat_tests)

-- the new number of a stamp that is in use is smaller than their number
pub below_small : (s : ℕ) (xs : List ℕ) → 0 < times_in s xs → below s xs < length xs
below_small s xs p = let h = below_more s xs in let k = below_length (suc s) xs in omega arith

-- of two stamps in use the smaller one has the smaller number
pub below_order : (s t : ℕ) (xs : List ℕ) → 0 < times_in s xs → s < t → below s xs < below t xs
below_order s t xs p lt = let h = below_more s xs in let k = below_le (suc s) t xs (omega arith) in omega arith

pub below_same : (s t : ℕ) (xs : List ℕ) → 0 < times_in s xs → 0 < times_in t xs → eqb (below s xs) (below t xs) ≡ eqb s t
below_same s t xs p q =
    elim (cases_order s t) [
      | inl e ↦ eq-eqb (below s xs) (below t xs) (ap (λ k. below k xs) e) ∙ sym (eq-eqb s t e)
      | inr (inl lt) ↦ let h = below_order s t xs p lt in ne_eqb (below s xs) (below t xs) (omega arith) ∙ sym (ne_eqb s t (omega arith))
      | inr (inr gt) ↦ let h = below_order t s xs q gt in ne_eqb (below s xs) (below t xs) (omega arith) ∙ sym (ne_eqb s t (omega arith))
    ]

pub below_append : (s : ℕ) (xs ys : List ℕ) → below s (xs ++ ys) ≡ below s xs + below s ys
below_append s [] ys = omega arith
below_append s (x ∷ xs) ys = let h = below_append s xs ys in grind (arith, nat_tests)

pub times_append : (s : ℕ) (xs ys : List ℕ) → times_in s (xs ++ ys) ≡ times_in s xs + times_in s ys
times_append s [] ys = omega arith
times_append s (x ∷ xs) ys = let h = times_append s xs ys in grind (arith, nat_tests)

-- ---- the stamps of slots
pub stamps_push : (xs : List Slot) (x : Slot) → stamps_in (xs ++ x ∷ []) ≡ stamps_in xs ++ stamps_of x
stamps_push [] x = append-nil (stamps_of x)
stamps_push (y ∷ xs) x = ap (λ l. stamps_of y ++ l) (stamps_push xs x) ∙ sym (append_assoc (stamps_of y) (stamps_in xs) (stamps_of x))

few : (x : Slot) → length (stamps_of x) ≤ 2
few Empty = omega arith
few (One a) = omega arith
few (Two a b) = omega arith

pub stamps_few : (xs : List Slot) → length (stamps_in xs) ≤ 2 * length xs
stamps_few [] = omega arith
stamps_few (x ∷ xs) = let h = stamps_few xs in let k = few x in let n = length-append (stamps_of x) (stamps_in xs) in omega arith
