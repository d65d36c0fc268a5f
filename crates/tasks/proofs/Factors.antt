-- The bits of a set of factors.
use Rattle.std.proofs.Common.{◌≡◌, ℕ, zero, suc, ◌+◌, ◌-◌, ◌*◌, ◌%◌, ◌^◌, ◌<◌, ◌≤◌, Bool, true, false, eqb, leb, Some, None, bit_and, bit_or, w32, sym, refl, ap, ◌∙◌, inl, inr, zero-add, arith}
use mathlib.Core.Path.{fun_ext}
use Rattle.std.specs.Prelude.{if◌then◌else◌, ◌&&◌}
use Rattle.std.specs.Int.{bit_at, bit_not, trailing_zeros}
use Rattle.std.proofs.lemmas.Bool.{cases_eq, cases_lt, cond-true, cond-false, le-leb, lt-leb}
use Rattle.std.proofs.Math.Pow.{pow-lt}
use Rattle.std.proofs.lemmas.Nat.{or_lt, and_le_l}
use Rattle.std.proofs.lemmas.Nat.Bits.{bit_at-zero, bit_at_and, bit_at_above, bit_at_set_same, bit_at_set_other, bit_at_clear_same, bit_at_clear_other, bit_at-trailing_zeros}
use Rattle.std.specs.Int.Count.{trailing_of_zero}
use Rattle.roll.specs.Tables.{put, none}
use Rattle.roll.proofs.Tables.{put_same, put_other}
use Rattle.rules.specs.Effects.{smallest}

-- which bits of a number are set
abbrev pub set_bits : ℕ → ℕ → Bool
set_bits n x = eqb (bit_at n x) 1

pub set_bits-zero : set_bits 0 ≡ none
set_bits-zero = fun_ext (λ x. ap (λ b. eqb b 1) (bit_at-zero x))

-- one bit is set, among the 17
pub below_with : (n k : ℕ) → n < 2 ^ 17 → k ≤ 16 → bit_or n (1 * 2 ^ k % 2 ^ 32) < 2 ^ 17
below_with n k fits le =
    let lt : k < 17 = omega arith in
    let p : 2 ^ k < 2 ^ 17 = pow-lt lt in
    or_lt 17 n (1 * 2 ^ k % 2 ^ 32) fits (omega (arith, p))

-- one bit is cleared
pub below_without : (n m : ℕ) → n < 2 ^ 17 → bit_and n m < 2 ^ 17
below_without n m fits = omega (arith, and_le_l n m)

pub set_bits_with : (n k : ℕ) → k < 32 → set_bits (bit_or n (1 * 2 ^ k % 2 ^ 32)) ≡ put (set_bits n) k true
set_bits_with n k lt = fun_ext at
  where
    at : (x : ℕ) → set_bits (bit_or n (1 * 2 ^ k % 2 ^ 32)) x ≡ put (set_bits n) k true x
    at x =
        elim (cases_eq k x) [
          | inl e ↦ rw (← e) (ap (λ b. eqb b 1) (bit_at_set_same w32 n k lt) ∙ sym (put_same (set_bits n) k true))
          | inr q ↦ ap (λ b. eqb b 1) (bit_at_set_other w32 n k lt x (λ p. q (sym p))) ∙ sym (put_other (set_bits n) k x true q)
        ]

-- one bit is cleared
pub set_bits_without : (n k : ℕ) → n < 2 ^ 32 → k < 32 → set_bits (bit_and n (bit_not w32 (1 * 2 ^ k % 2 ^ 32))) ≡ put (set_bits n) k false
set_bits_without n k fits lt = fun_ext at
  where
    other : (x : ℕ) → (k ≡ x → ⊥) → bit_at (bit_and n (bit_not w32 (1 * 2 ^ k % 2 ^ 32))) x ≡ bit_at n x
    other x q =
        elim (cases_lt x 32) [
          | inl l ↦ bit_at_clear_other w32 n k lt x l (λ p. q (sym p))
          | inr g ↦ let e = bit_at_above n 32 x fits g in let f = bit_at_and n (bit_not w32 (1 * 2 ^ k % 2 ^ 32)) x in omega (arith, e, f)
        ]

    at : (x : ℕ) → set_bits (bit_and n (bit_not w32 (1 * 2 ^ k % 2 ^ 32))) x ≡ put (set_bits n) k false x
    at x =
        elim (cases_eq k x) [
          | inl e ↦ rw (← e) (ap (λ b. eqb b 1) (bit_at_clear_same w32 n k lt) ∙ sym (put_same (set_bits n) k false))
          | inr q ↦ ap (λ b. eqb b 1) (other x q) ∙ sym (put_other (set_bits n) k x false q)
        ]

-- a scan passes over what is not set
skip : (n x k : ℕ) (f : ℕ → Bool) → ((i : ℕ) → x ≤ i → i < x + k → f i ≡ false) → smallest (k + n) x f ≡ smallest n (x + k) f
unfolding smallest
skip n x zero f h = let e : x ≡ x + zero = omega arith in let g : zero + n ≡ n = omega arith in ap (λ m. smallest m x f) g ∙ ap (λ y. smallest n y f) e
skip n x (suc k) f h =
    let g : suc k + n ≡ suc (k + n) = omega arith in
    let e : suc x + k ≡ x + suc k = omega arith in
    ap (λ m. smallest m x f) g
    ∙ cond-false (f x) (Some x) (smallest (k + n) (suc x) f) (h x (omega arith) (omega arith))
    ∙ skip n (suc x) k f (λ i a b. h i (omega arith) (omega arith))
    ∙ ap (λ y. smallest n y f) e

found : (n x : ℕ) (f : ℕ → Bool) → 0 < n → f x ≡ true → smallest n x f ≡ Some x
unfolding smallest
found n x f lt h = let e : n ≡ suc (n - 1) = omega arith in ap (λ m. smallest m x f) e ∙ cond-true (f x) (Some x) (smallest (n - 1) (suc x) f) h

-- below the lowest bit no bit is set
pub none_below : (n i : ℕ) → n < 2 ^ 32 → i < trailing_zeros w32 n → set_bits n i ≡ false
none_below n i fits lt =
    elim (cases_lt 0 n) [
      | inl l ↦ let w = bit_at-trailing_zeros w32 n l fits in ap (λ b. eqb b 1) (w.2 i lt)
      | inr g ↦ let e : n ≡ 0 = omega arith in rw e (ap (λ b. eqb b 1) (bit_at-zero i))
    ]

-- where there is one within the width, it is set
pub set_there : (n : ℕ) → n < 2 ^ 32 → trailing_zeros w32 n < 32 → set_bits n (trailing_zeros w32 n) ≡ true
set_there n fits lt =
    elim (cases_lt 0 n) [
      | inl l ↦ let w = bit_at-trailing_zeros w32 n l fits in ap (λ b. eqb b 1) w.1
      | inr g ↦ let e : n ≡ 0 = omega arith in absurd (let q = trailing_of_zero 32 in let h : trailing_zeros w32 n ≡ 32 = rw e q in omega (arith, h, lt))
    ]

-- the smallest of the 17 factors is the lowest bit
pub smallest-lowest : (n : ℕ) → n < 2 ^ 32 → smallest 17 0 (set_bits n) ≡ (if leb 0 (trailing_zeros w32 n) && leb (trailing_zeros w32 n) 16 then Some (trailing_zeros w32 n) else None)
unfolding smallest
smallest-lowest n fits =
    elim (cases_lt (trailing_zeros w32 n) 17) [
      | inl l ↦
          let k = trailing_zeros w32 n in
          let e : 17 ≡ k + (17 - k) = omega arith in
          ap (λ m. smallest m 0 (set_bits n)) e
          ∙ skip (17 - k) 0 k (set_bits n) (λ i a b. none_below n i fits (omega arith))
          ∙ ap (λ x. smallest (17 - k) x (set_bits n)) (zero-add k)
          ∙ found (17 - k) k (set_bits n) (omega arith) (set_there n fits (omega arith))
          ∙ (let a = le-leb 0 k (omega arith) in let b = le-leb k 16 (omega arith) in rw (a, b) refl)
      | inr g ↦
          let k = trailing_zeros w32 n in
          skip 0 0 17 (set_bits n) (λ i a b. none_below n i fits (omega arith)) ∙ (let a = le-leb 0 k (omega arith) in let b = lt-leb k 16 (omega arith) in rw (a, b) refl)
    ]
