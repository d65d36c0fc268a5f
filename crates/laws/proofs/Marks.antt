-- The asleep marks of one task's entries, after each change of the roll.
use Rattle.std.proofs.Common.{◌≡◌, ℕ, suc, Bool, true, false, cond, not, eqb, ◌⊎◌, List, [], ◌∷◌, ◌++◌, length, sym, refl, ap, ◌∙◌, subst, inl, inr}
use Rattle.std.proofs.lemmas.Bool.{cases_Bool, eqb-true}
use Rattle.roll.specs.declared.entry.Entry.{Entry}
use Rattle.roll.specs.Entries.{of?, count_of, marked, raised, ended, marking, cleared, levelled}

-- of three numbers, which are equal
pub data Tri : Bool → Bool → Bool → Type 0 where
  same : (B : Bool) → Tri true B B
  apart : (B : Bool) → Tri false B false
  other : Tri false false true

tri_go : (a u t : ℕ) → (eqb a u ≡ true) ⊎ (eqb a u ≡ false) → (eqb u t ≡ true) ⊎ (eqb u t ≡ false) → Tri (eqb a u) (eqb a t) (eqb u t)
tri_go a u t (inl x) y = subst (λ z. Tri z (eqb a t) (eqb u t)) (sym x) (subst (λ z. Tri true (eqb a t) (eqb z t)) (eqb-true a u x) (same (eqb a t)))
tri_go a u t (inr x) (inl y) =
    let w : u ≡ t = eqb-true u t y in
    let v : eqb a t ≡ false = subst (λ z. eqb a z ≡ false) w x in
    subst (λ z. Tri z (eqb a t) (eqb u t)) (sym x) (subst (λ z. Tri false z (eqb u t)) (sym v) (subst (λ z. Tri false false z) (sym y) other))
tri_go a u t (inr x) (inr y) = subst (λ z. Tri z (eqb a t) (eqb u t)) (sym x) (subst (λ z. Tri false (eqb a t) z) (sym y) (apart (eqb a t)))

pub tri : (a u t : ℕ) → Tri (eqb a u) (eqb a t) (eqb u t)
tri a u t = tri_go a u t (cases_Bool (eqb a u)) (cases_Bool (eqb u t))

-- the marks of t's entries, oldest first
abbrev pub marks_of : ℕ → List Entry → List Bool
marks_of t [] = []
marks_of t (e ∷ es) = cond (of? t e) (e.asleep ∷ marks_of t es) (marks_of t es)

abbrev pub rest : List Bool → List Bool
rest [] = []
rest (b ∷ bs) = bs

abbrev pub head_set : Bool → List Bool → List Bool
head_set b [] = []
head_set b (x ∷ xs) = b ∷ xs

pub count_marks : (t : ℕ) (es : List Entry) → count_of t es ≡ length (marks_of t es)
count_marks t [] = refl
count_marks t (e ∷ es) = go (of? t e) (count_marks t es)
  where
    go : (b : Bool) → count_of t es ≡ length (marks_of t es) → cond b (suc (count_of t es)) (count_of t es) ≡ length (cond b (e.asleep ∷ marks_of t es) (marks_of t es))
    go true i = ap suc i
    go false i = i

pub marks_append : (t : ℕ) (xs ys : List Entry) → marks_of t (xs ++ ys) ≡ marks_of t xs ++ marks_of t ys
marks_append t [] ys = refl
marks_append t (e ∷ es) ys = go (of? t e) (marks_append t es ys)
  where
    go : (b : Bool) → marks_of t (es ++ ys) ≡ marks_of t es ++ marks_of t ys
        → cond b (e.asleep ∷ marks_of t (es ++ ys)) (marks_of t (es ++ ys)) ≡ cond b (e.asleep ∷ marks_of t es) (marks_of t es) ++ marks_of t ys
    go true i = ap (λ (l : List Bool). e.asleep ∷ l) i
    go false i = i

pub through : {X Y : Type 0} (f : X → Y) (b : Bool) (x y : X) → f (cond b x y) ≡ cond b (f x) (f y)
through f true x y = refl
through f false x y = refl

pub marks_ended : (u t : ℕ) (es : List Entry) → marks_of t (ended u es) ≡ cond (eqb u t) (rest (marks_of t es)) (marks_of t es)
marks_ended u t [] = elim (eqb u t) as (λ b. [] ≡ cond b (rest []) []) [ true ↦ refl | false ↦ refl ]
marks_ended u t (e ∷ es) = through (marks_of t) (of? u e) es (e ∷ ended u es) ∙ go (tri e.task u t) (marks_ended u t es)
  where
    go : {A B C : Bool} → Tri A B C → marks_of t (ended u es) ≡ cond C (rest (marks_of t es)) (marks_of t es)
        → cond A (marks_of t es) (cond B (e.asleep ∷ marks_of t (ended u es)) (marks_of t (ended u es)))
        ≡ cond C (rest (cond B (e.asleep ∷ marks_of t es) (marks_of t es))) (cond B (e.asleep ∷ marks_of t es) (marks_of t es))
    go (same true) i = refl
    go (same false) i = refl
    go (apart true) i = ap (λ (l : List Bool). e.asleep ∷ l) i
    go (apart false) i = i
    go other i = i

pub marks_marking : (b : Bool) (u t : ℕ) (es : List Entry) → marks_of t (marking b u es) ≡ cond (eqb u t) (head_set b (marks_of t es)) (marks_of t es)
marks_marking b u t [] = elim (eqb u t) as (λ c. [] ≡ cond c (head_set b []) []) [ true ↦ refl | false ↦ refl ]
marks_marking b u t (e ∷ es) = through (marks_of t) (of? u e) (marked b e ∷ es) (e ∷ marking b u es) ∙ go (tri e.task u t) (marks_marking b u t es)
  where
    go : {A B C : Bool} → Tri A B C → marks_of t (marking b u es) ≡ cond C (head_set b (marks_of t es)) (marks_of t es)
        → cond A (cond B (b ∷ marks_of t es) (marks_of t es)) (cond B (e.asleep ∷ marks_of t (marking b u es)) (marks_of t (marking b u es)))
        ≡ cond C (head_set b (cond B (e.asleep ∷ marks_of t es) (marks_of t es))) (cond B (e.asleep ∷ marks_of t es) (marks_of t es))
    go (same true) i = refl
    go (same false) i = refl
    go (apart true) i = ap (λ (l : List Bool). e.asleep ∷ l) i
    go (apart false) i = i
    go other i = i

pub marks_cleared : (u t : ℕ) (es : List Entry) → marks_of t (cleared u es) ≡ cond (eqb u t) [] (marks_of t es)
marks_cleared u t [] = elim (eqb u t) as (λ c. ◌≡◌ {A = List Bool} [] (cond c [] [])) [ true ↦ refl | false ↦ refl ]
marks_cleared u t (e ∷ es) = through (marks_of t) (not (of? u e)) (e ∷ cleared u es) (cleared u es) ∙ go (tri e.task u t) (marks_cleared u t es)
  where
    go : {A B C : Bool} → Tri A B C → marks_of t (cleared u es) ≡ cond C [] (marks_of t es)
        → cond (not A) (cond B (e.asleep ∷ marks_of t (cleared u es)) (marks_of t (cleared u es))) (marks_of t (cleared u es))
        ≡ cond C [] (cond B (e.asleep ∷ marks_of t es) (marks_of t es))
    go (same true) i = i
    go (same false) i = i
    go (apart true) i = ap (λ (l : List Bool). e.asleep ∷ l) i
    go (apart false) i = i
    go other i = i

pub marks_levelled : (u l t : ℕ) (es : List Entry) → marks_of t (levelled u l es) ≡ marks_of t es
marks_levelled u l t [] = refl
marks_levelled u l t (e ∷ es) = go (of? u e) (marks_levelled u l t es)
  where
    go : (b : Bool) → marks_of t (levelled u l es) ≡ marks_of t es → marks_of t (cond b (raised l e) e ∷ levelled u l es) ≡ marks_of t (e ∷ es)
    go true i = ap (λ (m : List Bool). cond (of? t e) (e.asleep ∷ m) m) i
    go false i = ap (λ (m : List Bool). cond (of? t e) (e.asleep ∷ m) m) i
