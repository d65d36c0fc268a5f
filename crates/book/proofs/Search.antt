-- The search for a task's row.
use Rattle.std.proofs.Common.{◌≡◌, ℕ, zero, suc, ◌<◌, ◌≤◌, Bool, true, false, cond, eqb, List, Some, None, Option, MatchOption, sym, refl, ap, subst, inl, inr, arith}
use Rattle.std.proofs.lemmas.Bool.{cases_order, eq-eqb, ne_eqb, eqb-true}
use Rattle.book.specs.declared.sections.Layout.{Layout}
use Rattle.book.specs.Layout.{number_at, or_else, row_for}

pub row_for_none : (b : List ℕ) (l : Layout) (t n : ℕ) → ((k : ℕ) → k < n → number_at b l k ≡ t → ⊥) → row_for b l t n ≡ None
row_for_none b l t zero h = refl
row_for_none b l t (suc n) h =
    let ih : row_for b l t n ≡ None = row_for_none b l t n (λ k m. h k (omega arith)) in
    let e : eqb (number_at b l n) t ≡ false = ne_eqb (number_at b l n) t (h n (omega arith)) in
    rw (ih, e)

pub row_for_hit : (b : List ℕ) (l : Layout) (t n i : ℕ) → i < n → ((k : ℕ) → k < i → number_at b l k ≡ t → ⊥) → number_at b l i ≡ t → row_for b l t n ≡ Some i
row_for_hit b l t zero i h none e = absurd (omega arith)
row_for_hit b l t (suc n) i h none e =
    elim (cases_order i n) [
      | inl q ↦
          let ih : row_for b l t n ≡ None = row_for_none b l t n (λ k m. none k (omega arith)) in
          let z : eqb (number_at b l n) t ≡ true = eq-eqb (number_at b l n) t (subst (λ (m : ℕ). number_at b l m ≡ t) q e) in
          rw (ih, z) (ap Some (sym q))
      | inr o ↦
          let ih : row_for b l t n ≡ Some i = row_for_hit b l t n i (elim o [ inl q ↦ q | inr q ↦ absurd (omega arith) ]) none e in
          rw ih
    ]

-- what a search from the first row on finds
pub row_for_first : (b : List ℕ) (l : Layout) (t n : ℕ) (r : Option ℕ)
    → MatchOption r ((k : ℕ) → 0 ≤ k → k < n → number_at b l k ≡ t → ⊥) (λ i. (0 ≤ i) × (i < n) × (number_at b l i ≡ t) × ((k : ℕ) → 0 ≤ k → k < i → number_at b l k ≡ t → ⊥))
    → r ≡ row_for b l t n
row_for_first b l t n None h = sym (row_for_none b l t n (λ k m. h k (omega arith) m))
row_for_first b l t n (Some i) h = sym (row_for_hit b l t n i h.1 (λ k m. h.3 k (omega arith) m) h.2)

-- a row that is found is one of the n, and has the number
more : (b : List ℕ) (l : Layout) (t n k : ℕ) (o : Option ℕ) (z : Bool) → eqb (number_at b l n) t ≡ z
    → ((j : ℕ) → o ≡ Some j → (j < n) × (number_at b l j ≡ t)) → or_else o (cond z (Some n) None) ≡ Some k → (k < suc n) × (number_at b l k ≡ t)
more b l t n k (Some j) z w h e =
    let q : j ≡ k = cc in
    let v = h j refl in
    let less : j < n = v.0 in
    (omega arith, subst (λ (m : ℕ). number_at b l m ≡ t) q v.1)
more b l t n k None true w h e =
    let q : n ≡ k = cc in
    (omega arith, subst (λ (m : ℕ). number_at b l m ≡ t) q (eqb-true (number_at b l n) t w))
more b l t n k None false w h e = absurd (cc)

pub row_for_some : (b : List ℕ) (l : Layout) (t n k : ℕ) → row_for b l t n ≡ Some k → (k < n) × (number_at b l k ≡ t)
row_for_some b l t zero k e = absurd (cc)
row_for_some b l t (suc n) k e = more b l t n k (row_for b l t n) (eqb (number_at b l n) t) refl (λ j. row_for_some b l t n j) e
