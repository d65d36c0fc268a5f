-- A loop that beats the places of a row in their order.
use Rattle.std.proofs.Common.{◌≡◌, ℕ, ◌+◌, ◌<◌, ◌≤◌, Bool, List, [], ◌∷◌, ◌++◌, length, get_or, take, drop, set, Some, None, Option, sym, refl, ap, ◌∙◌, subst, arith}
use Rattle.std.specs.List.{flat_map}
use Rattle.std.proofs.lemmas.Grind.{common_steps, flat_map-append}
use Rattle.std.proofs.lemmas.List.{take_more_set, drop-set-lt, take_all, get_or-drop, drop-drop, length-set}
use Rattle.std.proofs.lemmas.List.Elements.{filter_more}
use Rattle.sheet.specs.declared.event.Event.{Event}
use Rattle.sheet.proofs.Fronts.{Writing, writing_more}
use Rattle.table.specs.declared.firing.Firing.{Firing}
use Rattle.table.specs.Rows.{entries, listed, firings, all_fired, all_told}
-- two lemmas of the library, under the names by which the proofs of the laws cite them
pub use Rattle.std.proofs.lemmas.Grind.{flat_map-append as joined_append}
pub use Rattle.std.proofs.lemmas.List.Sums.{fold-append as folded_append}

-- lists that agree from i on agree at i
same_at : {X : Type 0} (xs ys : List X) (i : ℕ) (d : X) → drop i ys ≡ drop i xs → get_or xs i d ≡ get_or ys i d
same_at xs ys i d e = grind (arith, common_steps, get_or-drop i xs 0 d, get_or-drop i ys 0 d)

-- The first i of the places xs were gone through, and are ys now: f says what became of each entry.
pub record Going {P : Type 0} (live : P → Bool) (f : P → List P) (xs ys : List P) (i : ℕ) : Type 0 where
  pub done : entries live (take i ys) ≡ flat_map f (entries live (take i xs))
  pub rest : drop i ys ≡ drop i xs
  pub long : length ys ≡ length xs

module _ {P : Type 0} {live : P → Bool} {f : P → List P} {xs ys : List P} {i : ℕ} where
  -- the entries that were gone through, with one place more
  pub going_split : Going live f xs ys i → i < length ys → (d : P) → entries live (take (i + 1) xs) ≡ entries live (take i xs) ++ entries live (get_or ys i d ∷ [])
  going_split b lt d =
      let lx : i < length xs = (let l = b.long in omega arith) in
      grind (arith, common_steps, filter_more live xs i d lx, same_at xs ys i d b.rest)

  pub going_more : Going live f xs ys i → i < length ys → (d q : P) →
      entries live (q ∷ []) ≡ flat_map f (entries live (get_or ys i d ∷ [])) → Going live f xs (set ys i q) (i + 1)
  going_more b lt d q e =
      let lt1 : i < i + 1 = omega arith in
      record {
        done = grind (arith, common_steps, take_more_set ys i q lt, b.done, e, going_split b lt d, flat_map-append);
        rest = grind (arith, common_steps, drop-set-lt (i + 1) ys i q lt1, drop-drop 1 i ys, drop-drop 1 i xs, b.rest);
        long = length-set ys i q ∙ b.long;
      }

  pub going_all : Going live f xs ys i → length xs ≤ i → entries live ys ≡ flat_map f (entries live xs)
  going_all b le = grind (arith, common_steps, b.done, b.long, take_all i ys, take_all i xs)

module _ {S : Type 0} (fired : S → Firing → S) (tells : S → Firing → Event) where
  pub told_append : (s : S) (fs gs : List Firing) → all_told fired tells s (fs ++ gs) ≡ all_told fired tells s fs ++ all_told fired tells (all_fired fired s fs) gs
  told_append s [] gs = refl
  told_append s (f ∷ fs) gs = grind (arith, common_steps, told_append (fired s f) fs gs)

  -- the target and its events, with the firings of one place more
  pub fired_more : {P : Type 0} (fires : P → Option Firing) (s t u : S) (xs ys zs : List P) → zs ≡ xs ++ ys →
      t ≡ all_fired fired s (firings fires xs) → u ≡ all_fired fired t (firings fires ys) → u ≡ all_fired fired s (firings fires zs)
  fired_more fires s t u xs ys zs e h k = grind (arith, common_steps)

  pub told_more : {P : Type 0} (fires : P → Option Firing) (s t : S) (xs ys zs : List P) (es : List Event) → zs ≡ xs ++ ys →
      t ≡ all_fired fired s (firings fires xs) → es ≡ all_told fired tells t (firings fires ys) →
      all_told fired tells s (firings fires xs) ++ es ≡ all_told fired tells s (firings fires zs)
  told_more fires s t xs ys zs es e h k = grind (arith, common_steps, told_append)

module _ {X : Type 0} {rows given sheet rows' : List X} {n : ℕ} where
  -- one more record is written, or none
  pub writing_some : Writing rows given sheet n → n < length sheet → (o : Option X) → rows ++ listed o ≡ rows' → (x : X) → o ≡ Some x → Writing rows' given (set sheet n x) (n + 1)
  writing_some w lt o e x is = subst (λ r. Writing r given (set sheet n x) (n + 1)) (ap (λ q. rows ++ listed q) (sym is) ∙ e) (writing_more w lt x)

  pub writing_same : Writing rows given sheet n → (o : Option X) → rows ++ listed o ≡ rows' → o ≡ None → Writing rows' given sheet n
  writing_same w o e is = let r : rows ≡ rows' = grind (arith, common_steps) in subst (λ r. Writing r given sheet n) r w
