-- What a table takes while its places suffice, and that it refuses where they do not.
use Rattle.std.proofs.Common.{◌≡◌, ℕ, ◌<◌, ◌≤◌, List, [], ◌∷◌, ◌++◌, length, refl, arith, Option}
use Rattle.std.proofs.lemmas.Grind.{common_steps}
use Rattle.std.proofs.lemmas.List.{length-append}
use Rattle.std.proofs.lemmas.Bool.{lt-ltb, le-ltb}
use Rattle.table.specs.Rows.{lefts}
use Rattle.table.specs.Times.{Deed, Deed.asks, Deed.beats, endless, limited, refusals, Fits}

module _ {P B : Type 0} (after : B → P → Option P) (size : ℕ) where
  fits_now : (es : List P) (ds : List (Deed P B)) → Fits after size es ds → length es ≤ size
  fits_now es [] h = h
  fits_now es (asks p ∷ ds) h = h.0
  fits_now es (beats b ∷ ds) h = h.0

  -- one more fits, so there is a place left
  place_left : (es : List P) (p : P) (ds : List (Deed P B)) → Fits after size (es ++ (p ∷ [])) ds → length es < size
  place_left es p ds h = let n = fits_now (es ++ (p ∷ [])) ds h in let s = length-append es (p ∷ []) in omega arith

  pub takes : (es : List P) (ds : List (Deed P B)) → Fits after size es ds → (limited after size es ds ≡ endless after es ds) × (refusals after size es ds ≡ 0)
  takes es [] h = (refl, refl)
  takes es (beats b ∷ ds) h = takes (lefts (after b) es) ds h.1
  takes es (asks p ∷ ds) h =
      let room = lt-ltb (length es) size (place_left es p ds h.1) in
      let rest = takes (es ++ (p ∷ [])) ds h.1 in
      (grind (arith, common_steps), grind (arith, common_steps))

  pub refuses : (es : List P) (p : P) → size ≤ length es → (refusals after size es (asks p ∷ []) ≡ 1) × (limited after size es (asks p ∷ []) ≡ es)
  refuses es p le =
      let full = le-ltb (length es) size le in
      (grind (arith, common_steps), grind (arith, common_steps))
