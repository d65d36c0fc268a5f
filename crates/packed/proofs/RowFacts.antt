-- The front of a list that stands in memory of a fixed size.
use Rattle.std.proofs.Common.{◌≡◌, ℕ, zero, suc, ◌+◌, ◌-◌, ◌<◌, ◌≤◌, List, [], ◌∷◌, ◌++◌, map, length, take, drop, set, sym, refl, ap, ◌∙◌, add-one, arith}
use Rattle.std.specs.List.{remove, copy_within}
use Rattle.std.proofs.lemmas.List.Edits.{take-paste}
use Rattle.std.proofs.lemmas.List.{take_at, length-map, take-take, drop-take, length-drop, length-take-le, length-append}

module _ {X : Type 0} where
  -- a write inside the front
  pub take_set_in : (n i : ℕ) (xs : List X) (y : X) → take n (set xs i y) ≡ set (take n xs) i y
  take_set_in zero zero [] y = refl
  take_set_in zero zero (x ∷ xs) y = refl
  take_set_in zero (suc i) [] y = refl
  take_set_in zero (suc i) (x ∷ xs) y = refl
  take_set_in (suc n) zero [] y = refl
  take_set_in (suc n) zero (x ∷ xs) y = refl
  take_set_in (suc n) (suc i) [] y = refl
  take_set_in (suc n) (suc i) (x ∷ xs) y = ap (λ l. x ∷ l) (take_set_in n i xs y)

  -- with those from i + 1 to n copied one place down, the front of n - 1 has lost the element at i
  pub moved : (xs : List X) (i n : ℕ) → i < n → n ≤ length xs → take (n - 1) (copy_within xs (i + 1) n i) ≡ remove (take n xs) i
  moved xs i n p q =
      let k = n - (i + 1) in
      let end : n - 1 ≡ i + k = omega arith in
      let back : i + 1 + k ≡ n = omega arith in
      let l = length-drop (i + 1) xs in
      let front : take i xs ≡ take i (take n xs) = sym (take-take i n xs (omega arith)) in
      let rest : take k (drop (i + 1) xs) ≡ drop (suc i) (take n xs) = sym (drop-take (i + 1) k xs) ∙ ap (λ m. drop (i + 1) (take m xs)) back ∙ ap (λ m. drop m (take n xs)) (add-one i) in
      ap (λ m. take m (copy_within xs (i + 1) n i)) end ∙ take-paste xs i (drop (i + 1) xs) k (omega arith) (omega arith) ∙ ap (λ l. l ++ take k (drop (i + 1) xs)) front ∙ ap (λ l. take i (take n xs) ++ l) rest

  -- the front of n changed element by element, and the rest as it was
  pub front_mapped : (f : X → X) (n k : ℕ) (xs ys : List X) → k ≡ n → n ≤ length xs → ys ≡ map f (take k xs) → (length (ys ++ drop k xs) ≡ length xs) × (take n (ys ++ drop k xs) ≡ map f (take n xs))
  front_mapped f n k xs ys q p e =
      let m : ys ≡ map f (take n xs) = e ∙ ap (λ j. map f (take j xs)) q in
      let l : length ys ≡ n = ap length m ∙ length-map (take n xs) f ∙ length-take-le n xs p in
      let d = length-drop k xs in
      let a = length-append ys (drop k xs) in
      (omega arith, take_at ys (drop k xs) n l ∙ m)
