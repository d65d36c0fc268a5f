-- One turn of the search: m is what a roll without a lever means, and t is its first.
use Rattle.std.proofs.Common.{◌≡◌, ℕ, suc, Bool, true, false, List, [], ◌∷◌, ◌++◌, Some, None, Option, sym, refl, ap, ◌∙◌}
use Rattle.roll.specs.Tables.{none}
use Rattle.roll.specs.Firsts.{first_of}
use Rattle.roll.specs.Model.{Model, with, first_in, after_sleep, after_rouse}
use Rattle.roll.proofs.Firsts.{awake_at, first_awake}
use Rattle.roll.proofs.Sleeps.{awakes, first_slept, first_held_some, first_held_none, roused_slept, awakes_slept}
use Rattle.lever.specs.Searches.{roused}

module _ (m : Model) (free : m.held ≡ none) where
  first_of_all : (o : Option ℕ) → o ≡ first_in m → first_of none m.entries ≡ o
  first_of_all o p = sym (p ∙ ap (λ h. first_of h m.entries) free)

  pub turn_none : (h : ℕ → Bool) → None ≡ first_in m → None ≡ first_of h m.entries
  turn_none h p = sym (first_held_none h m.entries (first_of_all None p))

module _ (m : Model) (free : m.held ≡ none) (t : ℕ) (first : Some t ≡ first_in m) where
  turn_awake : awake_at t m.entries ≡ true
  turn_awake = first_awake none m.entries t (first_of_all m free (Some t) first)

  -- one entry fewer is awake
  pub turn_one : suc (awakes (after_sleep t m).entries) ≡ awakes m.entries
  turn_one = awakes_slept t m.entries turn_awake

  pub turn_back : after_rouse t (after_sleep t m) ≡ m
  turn_back = ap (with m) (roused_slept t m.entries turn_awake)

  pub turn_some : (h : ℕ → Bool) → h t ≡ false → Some t ≡ first_of h m.entries
  turn_some h p = sym (first_held_some h m.entries t (first_of_all m free (Some t) first) p)

  pub turn_same : (h : ℕ → Bool) → h t ≡ true → first_of h (after_sleep t m).entries ≡ first_of h m.entries
  turn_same h p = first_slept h t m.entries p

-- where the first is not held, it is the first of those that are not
pub turn_first : (m : Model) → m.held ≡ none → (h : ℕ → Bool) (o : Option ℕ) → o ≡ first_in m → ((t : ℕ) → o ≡ Some t → h t ≡ false) → o ≡ first_of h m.entries
turn_first m free h None p q = turn_none m free h p
turn_first m free h (Some t) p q = turn_some m free t p h (q t refl)

-- ---- rousing what was put to sleep
pub roused_push : (ts : List ℕ) (t : ℕ) (m : Model) → roused (ts ++ t ∷ []) m ≡ roused ts (after_rouse t m)
roused_push [] t m = refl
roused_push (u ∷ ts) t m = ap (after_rouse u) (roused_push ts t m)

-- one more put to sleep, and noted
pub slept_more : (ts : List ℕ) (t : ℕ) (m : Model) → m.held ≡ none → Some t ≡ first_in m → roused (ts ++ t ∷ []) (after_sleep t m) ≡ roused ts m
slept_more ts t m free first = roused_push ts t (after_sleep t m) ∙ ap (roused ts) (turn_back m free t first)
