-- The place of a task's oldest entry, and what is done there.
use Rattle.std.proofs.Common.{◌≡◌, ℕ, suc, ◌+◌, ◌<◌, ◌≤◌, Bool, true, false, cond, ltb, List, [], ◌∷◌, length, get_or, set, Some, None, Option, Ok, Err, ◌⊎◌, inl, inr, sym, refl, ap, ◌∙◌, subst, arith}
use Rattle.std.specs.List.{remove, position, position_or_len, count_by}
use Rattle.std.specs.Option.{ok_or}
use Rattle.std.proofs.lemmas.Bool.{cases_Bool, ltb-true}
use Rattle.std.proofs.lemmas.Bool.Decides.{nat_tests}
use Rattle.std.proofs.lemmas.List.{set_past}
use Rattle.std.proofs.lemmas.List.Recursion.{is_count_by, is_position_or_len}
use Rattle.roll.specs.Entries.{of?, count_of, ended, marking, marked, awake}
use Rattle.roll.specs.declared.entry.Entry.{Entry}
use Rattle.roll.specs.declared.entry.Refused.{Refused}

-- where the oldest entry of t stands; the length where there is none
abbrev place_of : ℕ → List Entry → ℕ
place_of t [] = 0
place_of t (e ∷ es) = cond (of? t e) 0 (suc (place_of t es))

-- a task has an entry exactly where its place is before the end
has_place : (t : ℕ) (es : List Entry) → ltb 0 (count_of t es) ≡ ltb (place_of t es) (length es)
has_place t [] = refl
has_place t (e ∷ es) =
    let h = has_place t es in
    elim (of? t e) as (λ v. ltb 0 (cond v (suc (count_of t es)) (count_of t es)) ≡ ltb (cond v 0 (suc (place_of t es))) (suc (length es))) [
      | true ↦ grind (arith, nat_tests)
      | false ↦ grind (arith, nat_tests)
    ]

ended_at : (t : ℕ) (es : List Entry) → remove es (place_of t es) ≡ ended t es
ended_at t [] = refl
ended_at t (e ∷ es) =
    elim (of? t e) as (λ v. remove (e ∷ es) (cond v 0 (suc (place_of t es))) ≡ cond v es (e ∷ ended t es)) [
      | true ↦ refl
      | false ↦ ap (λ l. e ∷ l) (ended_at t es)
    ]

marking_at : (b : Bool) (t : ℕ) (es : List Entry) → set es (place_of t es) (marked b (get_or es (place_of t es) (awake 0 0))) ≡ marking b t es
marking_at b t [] = refl
marking_at b t (e ∷ es) =
    elim (of? t e) as (λ v. set (e ∷ es) (cond v 0 (suc (place_of t es))) (marked b (get_or (e ∷ es) (cond v 0 (suc (place_of t es))) (awake 0 0))) ≡ cond v (marked b e ∷ es) (e ∷ marking b t es)) [
      | true ↦ refl
      | false ↦ ap (λ l. e ∷ l) (marking_at b t es)
    ]

pub marking_none : (b : Bool) (t : ℕ) (es : List Entry) → count_of t es ≡ 0 → marking b t es ≡ es
marking_none b t es p =
    let h = has_place t es in
    let past : length es ≤ place_of t es = grind (arith, nat_tests) in
    sym (marking_at b t es) ∙ set_past es (place_of t es) (marked b (get_or es (place_of t es) (awake 0 0))) past

-- ---- by the words of std
pub count_is : (t : ℕ) (es : List Entry) → count_of t es ≡ count_by (of? t) es
count_is t = is_count_by (count_of t) (of? t) refl (λ e es. let z : suc (count_of t es) ≡ 1 + count_of t es = omega arith in ap (λ n. cond (of? t e) n (count_of t es)) z)

place_same : (t : ℕ) (es : List Entry) → place_of t es ≡ position_or_len (of? t) es
place_same t = is_position_or_len (place_of t) (of? t) refl (λ e es. let z : suc (place_of t es) ≡ 1 + place_of t es = omega arith in ap (λ n. cond (of? t e) 0 n) z)

-- what is true of the place i of the oldest entry of t
pub record Place (t : ℕ) (es : List Entry) (i : ℕ) : Type 0 where
  pub inside : i < length es
  pub some : ltb 0 (count_of t es) ≡ true
  pub ends : remove es i ≡ ended t es
  pub marks : (b : Bool) → set es i (marked b (get_or es i (awake 0 0))) ≡ marking b t es

place_at : (t : ℕ) (es : List Entry) → ltb (place_of t es) (length es) ≡ true → Place t es (place_of t es)
place_at t es p = record { inside = ltb-true (place_of t es) (length es) p; some = has_place t es ∙ p; ends = ended_at t es; marks = (λ b. marking_at b t es) }

-- ---- a place looked for, and refused where there is none
place_is : (t : ℕ) (es : List Entry) → position (of? t) es ≡ cond (ltb (place_of t es) (length es)) (Some (place_of t es)) None
place_is t es = ap (λ n. cond (ltb n (length es)) (Some n) None) (sym (place_same t es))

pub place_ok : (t : ℕ) (es : List Entry) (o : Option ℕ) (r : Refused) (i : ℕ) → o ≡ position (of? t) es → ok_or o r ≡ Ok i → Place t es i
place_ok t es o r i p q = go (cases_Bool (ltb (place_of t es) (length es)))
  where
    go : (ltb (place_of t es) (length es) ≡ true) ⊎ (ltb (place_of t es) (length es) ≡ false) → Place t es i
    go (inl v) =
        let k : o ≡ Some (place_of t es) = p ∙ place_is t es ∙ ap (λ b. cond b (Some (place_of t es)) None) v in
        let e : place_of t es ≡ i = (let z : ok_or (Some (place_of t es)) r ≡ Ok i = ap (λ x. ok_or x r) (sym k) ∙ q in cc) in
        subst (Place t es) e (place_at t es v)
    go (inr v) =
        let k : o ≡ None = p ∙ place_is t es ∙ ap (λ b. cond b (Some (place_of t es)) None) v in
        let z : ok_or None r ≡ Ok i = ap (λ x. ok_or x r) (sym k) ∙ q in
        absurd (let y : ◌≡◌ {A = ℕ} 0 1 = cc in omega arith)

pub place_err : (t : ℕ) (es : List Entry) (o : Option ℕ) (r x : Refused) → o ≡ position (of? t) es → ok_or o r ≡ Err x → ltb 0 (count_of t es) ≡ false
place_err t es o r x p q = go (cases_Bool (ltb (place_of t es) (length es)))
  where
    go : (ltb (place_of t es) (length es) ≡ true) ⊎ (ltb (place_of t es) (length es) ≡ false) → ltb 0 (count_of t es) ≡ false
    go (inl v) =
        let k : o ≡ Some (place_of t es) = p ∙ place_is t es ∙ ap (λ b. cond b (Some (place_of t es)) None) v in
        let z : ok_or (Some (place_of t es)) r ≡ Err x = ap (λ y. ok_or y r) (sym k) ∙ q in
        absurd (let y : ◌≡◌ {A = ℕ} 0 1 = cc in omega arith)
    go (inr v) = has_place t es ∙ v
