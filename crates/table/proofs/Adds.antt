-- A row of places in which a free one goes behind all others, and an entry is written there.
use Rattle.std.proofs.Common.{◌≡◌, ℕ, zero, suc, ◌-◌, ◌<◌, ◌≤◌, Bool, true, false, cond, not, ltb, None, List, [], ◌∷◌, ◌++◌, length, get_or, set, refl, ap, arith, rules}
use Rattle.std.specs.List.{position, position_or_len, remove}
use Rattle.std.proofs.lemmas.Bool.{lt-ltb, le-ltb}
use Rattle.std.proofs.Math.Seq.{set-append_seam}
use Rattle.std.proofs.lemmas.Grind.{common_steps}
use Rattle.std.proofs.lemmas.List.{length-append}
use Rattle.std.proofs.lemmas.List.Edits.{length-remove}
use Rattle.std.proofs.lemmas.List.Elements.{filter-append}
use Rattle.std.proofs.lemmas.List.Sums.{length-filter, count_by-le-length}
use Rattle.table.specs.Rows.{entries}

module _ {P : Type 0} (live : P → Bool) where
  -- no place is free
  all_entries : (xs : List P) → length xs ≤ position_or_len (λ p. not (live p)) xs → entries live xs ≡ xs
  all_entries [] h = refl
  all_entries (x ∷ xs) h = grind (arith, common_steps, all_entries xs)

  pub all_taken : (xs : List P) → position (λ p. not (live p)) xs ≡ None → ltb (length (entries live xs)) (length xs) ≡ false
  all_taken xs none =
      let past : length xs ≤ position_or_len (λ p. not (live p)) xs = grind (arith, common_steps) in
      let all = all_entries xs past in
      le-ltb _ _ (omega (arith, ap length all))

  -- without a free place the entries are the same
  pub without_free : (xs : List P) (i : ℕ) (d : P) → i < length xs → live (get_or xs i d) ≡ false → entries live (remove xs i) ≡ entries live xs
  without_free [] i d lt free = absurd (omega arith)
  without_free (x ∷ xs) zero d lt free = search rules
  without_free (x ∷ xs) (suc i) d lt free = ap (λ l. cond (live x) (x ∷ l) l) (without_free xs i d (omega arith) free)

  pub room_left : (xs : List P) (i : ℕ) (d : P) → i < length xs → live (get_or xs i d) ≡ false → ltb (length (entries live xs)) (length xs) ≡ true
  room_left xs i d lt free =
      lt-ltb _ _ (omega (arith, ap length (without_free xs i d lt free), length-filter live (remove xs i), count_by-le-length live (remove xs i), length-remove xs i lt))

  pub added_last : (xs ys : List P) (i : ℕ) (d q : P) → i < length xs → live (get_or xs i d) ≡ false → live q ≡ true →
      ys ≡ remove xs i ++ (get_or xs i d ∷ []) → entries live (set ys (length ys - 1) q) ≡ entries live xs ++ (q ∷ [])
  added_last xs ys i d q lt free lives e =
      let at : length ys - 1 ≡ length (remove xs i) = omega (arith, ap length e, length-append (remove xs i) (get_or xs i d ∷ [])) in
      grind (arith, common_steps, at, e, set-append_seam (remove xs i) (get_or xs i d) [] q, filter-append live (remove xs i) (q ∷ []), without_free xs i d lt free)
