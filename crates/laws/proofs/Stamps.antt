-- The stamps of unfinished starts: they rise, and the first of a task is its age.
use Rattle.std.proofs.Common.{◌≡◌, ℕ, suc, ◌+◌, ◌-◌, ◌≤◌, Bool, true, false, cond, ◌&&◌, eqb, ◌⊎◌, List, [], ◌∷◌, length, refl, ap, ◌∙◌, subst, inl, inr, arith}
use Rattle.std.specs.List.{AllByRecursion as All}
use Rattle.std.proofs.lemmas.Bool.{cases_Bool, eqb-true, cond-true, cond-false}
use Rattle.sheet.specs.declared.event.Event.{Event}
use Rattle.sheet.specs.declared.event.Kind.TheVariants.{Accepted}
use Rattle.laws.specs.Laws.{is_of, place}
use Rattle.laws.proofs.Starts.{Start, less, opens}

abbrev pub Rising : List Start → Type 0
Rising [] = Unit {0}
Rising (x ∷ xs) = All (λ (y : Start). x.stamp ≤ y.stamp) xs × Rising xs

opens_from : (f : ℕ → ℕ) (m n : ℕ) (es : List Event) → m ≤ n → All (λ (y : Start). m ≤ y.stamp) (opens f n es)
opens_from f m n [] h = tt
opens_from f m n (e ∷ es) h = go (is_of Accepted e) (eqb (f e.task) 0) (opens_from f m (suc n) es (omega arith)) (opens_from (less e.task f) m (suc n) es (omega arith))
  where
    go : (K Z : Bool) → All (λ (y : Start). m ≤ y.stamp) (opens f (suc n) es) → All (λ (y : Start). m ≤ y.stamp) (opens (less e.task f) (suc n) es)
        → All (λ (y : Start). m ≤ y.stamp) (cond K (cond Z (record { task = e.task; stamp = n } ∷ opens f (suc n) es) (opens (less e.task f) (suc n) es)) (opens f (suc n) es))
    go true true a b = (h, a)
    go true false a b = b
    go false Z a b = a

pub opens_rise : (f : ℕ → ℕ) (n : ℕ) (es : List Event) → Rising (opens f n es)
opens_rise f n [] = tt
opens_rise f n (e ∷ es) = go (is_of Accepted e) (eqb (f e.task) 0) (opens_rise f (suc n) es) (opens_rise (less e.task f) (suc n) es)
  where
    go : (K Z : Bool) → Rising (opens f (suc n) es) → Rising (opens (less e.task f) (suc n) es)
        → Rising (cond K (cond Z (record { task = e.task; stamp = n } ∷ opens f (suc n) es) (opens (less e.task f) (suc n) es)) (opens f (suc n) es))
    go true true a b = (opens_from f n (suc n) es (omega arith), a)
    go true false a b = b
    go false Z a b = a

abbrev pub first_stamp : ℕ → ℕ → List Start → ℕ
first_stamp d t [] = d
first_stamp d t (x ∷ xs) = cond (eqb x.task t) x.stamp (first_stamp d t xs)

pub stamp_place : (t : ℕ) (f : ℕ → ℕ) (n d : ℕ) (es : List Event) → d ≡ n + length es → first_stamp d t (opens f n es) ≡ place t (f t) n es
stamp_place t f n d [] h = (let z : d ≡ n = omega arith in z)
stamp_place t f n d (e ∷ es) h = go (is_of Accepted e) (cases_Bool (eqb (f e.task) 0)) (cases_Bool (eqb e.task t)) (stamp_place t f (suc n) d es (omega arith)) (stamp_place t (less e.task f) (suc n) d es (omega arith))
  where
    go : (K : Bool) → (eqb (f e.task) 0 ≡ true) ⊎ (eqb (f e.task) 0 ≡ false) → (eqb e.task t ≡ true) ⊎ (eqb e.task t ≡ false)
        → first_stamp d t (opens f (suc n) es) ≡ place t (f t) (suc n) es
        → first_stamp d t (opens (less e.task f) (suc n) es) ≡ place t (less e.task f t) (suc n) es
        → first_stamp d t (cond K (cond (eqb (f e.task) 0) (record { task = e.task; stamp = n } ∷ opens f (suc n) es) (opens (less e.task f) (suc n) es)) (opens f (suc n) es))
        ≡ cond (K && eqb e.task t) (cond (eqb (f t) 0) n (place t (f t - 1) (suc n) es)) (place t (f t) (suc n) es)
    go false z y i j = i
    go true (inl z) (inl y) i j = let q : eqb (f t) 0 ≡ true = subst (λ u. eqb (f u) 0 ≡ true) (eqb-true e.task t y) z in rw (z, y, q) refl
    go true (inl z) (inr y) i j = rw (z, y) i
    go true (inr z) (inl y) i j =
        let q : eqb (f t) 0 ≡ false = subst (λ u. eqb (f u) 0 ≡ false) (eqb-true e.task t y) z in
        let w : less e.task f t ≡ f t - 1 = cond-true (eqb e.task t) (f t - 1) (f t) y in
        rw (z, y, q) (j ∙ ap (λ k. place t k (suc n) es) w)
    go true (inr z) (inr y) i j =
        let w : less e.task f t ≡ f t = cond-false (eqb e.task t) (f t - 1) (f t) y in
        rw (z, y) (j ∙ ap (λ k. place t k (suc n) es) w)

pub opens_below : (f : ℕ → ℕ) (d n : ℕ) (es : List Event) → n + length es ≤ d → All (λ (y : Start). y.stamp ≤ d) (opens f n es)
opens_below f d n [] h = tt
opens_below f d n (e ∷ es) h = go (is_of Accepted e) (eqb (f e.task) 0) (opens_below f d (suc n) es (omega arith)) (opens_below (less e.task f) d (suc n) es (omega arith))
  where
    go : (K Z : Bool) → All (λ (y : Start). y.stamp ≤ d) (opens f (suc n) es) → All (λ (y : Start). y.stamp ≤ d) (opens (less e.task f) (suc n) es)
        → All (λ (y : Start). y.stamp ≤ d) (cond K (cond Z (record { task = e.task; stamp = n } ∷ opens f (suc n) es) (opens (less e.task f) (suc n) es)) (opens f (suc n) es))
    go true true a b = (omega arith, a)
    go true false a b = b
    go false Z a b = a
