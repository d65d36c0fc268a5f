-- How many entries a task u has after each change of the entries of a task t.
use Rattle.std.proofs.Common.{◌≡◌, ℕ, suc, ◌+◌, ◌-◌, ◌≤◌, Bool, true, false, cond, not, eqb, List, [], ◌∷◌, ◌++◌, sym, refl, ap, ◌∙◌, arith}
use Rattle.std.proofs.lemmas.Bool.Decides.{nat_tests}
use Rattle.std.proofs.lemmas.Bool.{cond-false}
use Rattle.roll.specs.Entries.{of?, count_of, ended, marking, marked, cleared, levelled, raised}
use Rattle.roll.specs.declared.entry.Entry.{Entry}

pub count_push : (u : ℕ) (es : List Entry) (e : Entry) → count_of u (es ++ e ∷ []) ≡ count_of u es + cond (of? u e) 1 0
count_push u [] e = grind (arith, nat_tests)
count_push u (x ∷ es) e = let h = count_push u es e in grind (arith, nat_tests)

pub count_ended : (u t : ℕ) (es : List Entry) → count_of u (ended t es) ≡ count_of u es - cond (eqb t u) 1 0
count_ended u t [] = grind (arith, nat_tests)
count_ended u t (e ∷ es) =
    let h = count_ended u t es in
    elim (of? t e) as (λ v. of? t e ≡ v → count_of u (cond v es (e ∷ ended t es)) ≡ cond (of? u e) (suc (count_of u es)) (count_of u es) - cond (eqb t u) 1 0) [
      | true ↦ λ v. grind (arith, nat_tests)
      | false ↦ λ v. grind (arith, nat_tests)
    ] refl

pub count_cleared : (u t : ℕ) (es : List Entry) → count_of u (cleared t es) ≡ cond (eqb t u) 0 (count_of u es)
count_cleared u t [] = grind (arith, nat_tests)
count_cleared u t (e ∷ es) =
    let h = count_cleared u t es in
    elim (of? t e) as (λ v. of? t e ≡ v → count_of u (cond (not v) (e ∷ cleared t es) (cleared t es)) ≡ cond (eqb t u) 0 (cond (of? u e) (suc (count_of u es)) (count_of u es))) [
      | true ↦ λ v. grind (arith, nat_tests)
      | false ↦ λ v. grind (arith, nat_tests)
    ] refl

pub count_marking : (b : Bool) (u t : ℕ) (es : List Entry) → count_of u (marking b t es) ≡ count_of u es
count_marking b u t [] = refl
count_marking b u t (e ∷ es) =
    let h = count_marking b u t es in
    elim (of? t e) as (λ v. count_of u (cond v (marked b e ∷ es) (e ∷ marking b t es)) ≡ count_of u (e ∷ es)) [
      | true ↦ refl
      | false ↦ ap (λ n. cond (of? u e) (suc n) n) h
    ]

pub count_levelled : (u t l : ℕ) (es : List Entry) → count_of u (levelled t l es) ≡ count_of u es
count_levelled u t l [] = refl
count_levelled u t l (e ∷ es) =
    let h = ap (λ n. cond (of? u e) (suc n) n) (count_levelled u t l es) in
    elim (of? t e) as (λ v. count_of u (cond v (raised l e) e ∷ levelled t l es) ≡ count_of u (e ∷ es)) [
      | true ↦ h
      | false ↦ h
    ]

-- ---- with few entries of t, to end is to clear
pub ended_none : (t : ℕ) (es : List Entry) → count_of t es ≡ 0 → ended t es ≡ es
ended_none t [] p = refl
ended_none t (e ∷ es) p =
    elim (of? t e) as (λ v. cond v (suc (count_of t es)) (count_of t es) ≡ 0 → cond v es (e ∷ ended t es) ≡ e ∷ es) [
      | true ↦ λ q. absurd (omega arith)
      | false ↦ λ q. ap (λ l. e ∷ l) (ended_none t es q)
    ] p

pub cleared_none : (t : ℕ) (es : List Entry) → count_of t es ≡ 0 → cleared t es ≡ es
cleared_none t [] p = refl
cleared_none t (e ∷ es) p =
    elim (of? t e) as (λ v. cond v (suc (count_of t es)) (count_of t es) ≡ 0 → cond (not v) (e ∷ cleared t es) (cleared t es) ≡ e ∷ es) [
      | true ↦ λ q. absurd (omega arith)
      | false ↦ λ q. ap (λ l. e ∷ l) (cleared_none t es q)
    ] p

pub cleared_once : (t : ℕ) (es : List Entry) → count_of t es ≤ 1 → cleared t es ≡ ended t es
cleared_once t [] p = refl
cleared_once t (e ∷ es) p =
    elim (of? t e) as (λ v. cond v (suc (count_of t es)) (count_of t es) ≤ 1 → cond (not v) (e ∷ cleared t es) (cleared t es) ≡ cond v es (e ∷ ended t es)) [
      | true ↦ λ q. cleared_none t es (omega arith)
      | false ↦ λ q. ap (λ l. e ∷ l) (cleared_once t es q)
    ] p

-- at most two: to end twice is to clear
pub cleared_twice : (t : ℕ) (es : List Entry) → count_of t es ≤ 2 → cleared t es ≡ ended t (ended t es)
cleared_twice t [] p = refl
cleared_twice t (e ∷ es) p =
    elim (of? t e) as (λ v. of? t e ≡ v → cond v (suc (count_of t es)) (count_of t es) ≤ 2 → cond (not v) (e ∷ cleared t es) (cleared t es) ≡ ended t (cond v es (e ∷ ended t es))) [
      | true ↦ λ _ q. cleared_once t es (omega arith)
      | false ↦ λ n q. ap (λ l. e ∷ l) (cleared_twice t es q) ∙ sym (cond-false (of? t e) (ended t es) (e ∷ ended t (ended t es)) n)
    ] refl p
