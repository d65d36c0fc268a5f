-- A loop that removes what is selected, place by place.
use Rattle.std.proofs.Common.{◌≡◌, ℕ, ◌+◌, Bool, true, false, cond, not, List, [], ◌∷◌, ◌++◌, length, filter, refl, arith, rules}
use Rattle.std.specs.List.{flat_map}
use Rattle.std.proofs.lemmas.Grind.{common_steps}
use Rattle.table.specs.Rows.{entries}

module _ {X : Type 0} (m : X → Bool) where
  -- to drop what passes is to keep what does not
  pub joined_drop : (xs : List X) → flat_map (λ x. cond (m x) [] (x ∷ [])) xs ≡ filter (λ x. not (m x)) xs
  joined_drop [] = refl
  joined_drop (x ∷ xs) = grind (arith, common_steps, joined_drop xs)

  -- how many passed, with k more
  pub counted_more : (n : ℕ) (xs ys zs : List X) (k : ℕ) → zs ≡ xs ++ ys → n ≡ length (filter m xs) → k ≡ length (filter m ys) → n + k ≡ length (filter m zs)
  counted_more n xs ys zs k e h i = grind (arith, common_steps)

module _ {P : Type 0} (live m : P → Bool) where
  -- an entry that is selected is set free and counted
  pub taken_out : (v : P) → live v ≡ false → (p : P) → true ≡ cond (live p) (m p) false →
      (entries live (v ∷ []) ≡ flat_map (λ x. cond (m x) [] (x ∷ [])) (entries live (p ∷ []))) × (1 ≡ length (filter m (entries live (p ∷ []))))
  taken_out v free p e = (search rules, search rules)

  -- any other place is left as it is
  pub kept_in : (p : P) → false ≡ cond (live p) (m p) false →
      (entries live (p ∷ []) ≡ flat_map (λ x. cond (m x) [] (x ∷ [])) (entries live (p ∷ []))) × (0 ≡ length (filter m (entries live (p ∷ []))))
  kept_in p e = (search rules, search rules)
