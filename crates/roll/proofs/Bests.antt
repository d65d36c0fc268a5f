-- The best of a list of entries, and the best of those that pass a test.
use Rattle.std.proofs.Common.{◌≡◌, ℕ, ◌≤◌, Bool, true, false, cond, ◌&&◌, ltb, ◌⊎◌, List, [], ◌∷◌, Some, None, filter, Option, sym, refl, ap, ◌∙◌, subst, inl, inr, arith}
use Rattle.std.specs.List.{AllByRecursion as All}
use Rattle.std.proofs.lemmas.Bool.Decides.{nat_tests}
use Rattle.std.proofs.lemmas.Bool.{lt-ltb, le-ltb, cases_lt}
use Rattle.std.proofs.ByRecursion.{all_kept_by}
use Rattle.roll.specs.Firsts.{better, best, task_of}
use Rattle.roll.specs.declared.entry.Entry.{Entry}

module _ {X : Type 0} where
  pub kept_by_same : (p q : X → Bool) → ((x : X) → p x ≡ q x) → (xs : List X) → filter p xs ≡ filter q xs
  kept_by_same p q h [] = refl
  kept_by_same p q h (x ∷ xs) = rw (h x, kept_by_same p q h xs)

  pub kept_by_both : (p q : X → Bool) (xs : List X) → filter p (filter q xs) ≡ filter (λ x. q x && p x) xs
  kept_by_both p q [] = refl
  kept_by_both p q (x ∷ xs) =
      elim (q x) as (λ v. filter p (cond v (x ∷ filter q xs) (filter q xs)) ≡ cond (v && p x) (x ∷ filter (λ y. q y && p y) xs) (filter (λ y. q y && p y) xs)) [
        | true ↦ ap (λ l. cond (p x) (x ∷ l) l) (kept_by_both p q xs)
        | false ↦ kept_by_both p q xs
      ]

pub better_none : (b : Option Entry) → better b None ≡ b
better_none None = refl
better_none (Some e) = refl

pub better_assoc : (a b c : Option Entry) → better (better a b) c ≡ better a (better b c)
better_assoc None b c = refl
better_assoc (Some e) None c = refl
better_assoc (Some e) (Some f) None = better_none (better (Some e) (Some f))
better_assoc (Some e) (Some f) (Some g) = grind (arith, nat_tests)

-- no entry there, or one whose level is not better than l
abbrev Floor : ℕ → Option Entry → Type 0
Floor l None = Unit {0}
Floor l (Some e) = l ≤ e.level

floor_parts : (l : ℕ) (x : Entry) (o : Option Entry) → Floor l (better (Some x) o) → (l ≤ x.level) × Floor l o
floor_parts l x None p = (p, tt)
floor_parts l x (Some f) p =
    elim (cases_lt f.level x.level) [
      | inl lt ↦ let k = lt-ltb f.level x.level lt in let q : l ≤ f.level = rw k at p in (omega arith, q)
      | inr ge ↦ let k = le-ltb f.level x.level ge in let q : l ≤ x.level = rw k at p in (q, omega arith)
    ]

floor_from : (l : ℕ) (x : Entry) (o : Option Entry) → l ≤ x.level → Floor l o → Floor l (better (Some x) o)
floor_from l x None p q = p
floor_from l x (Some f) p q =
    elim (ltb f.level x.level) as (λ v. Floor l (cond v (Some f) (Some x))) [
      | true ↦ q
      | false ↦ p
    ]

floor_keeps : (x : Entry) (o : Option Entry) → Floor x.level o → better (Some x) o ≡ Some x
floor_keeps x None p = refl
floor_keeps x (Some f) p = rw (le-ltb f.level x.level p)

best_all : (l : ℕ) (xs : List Entry) → Floor l (best xs) → All (λ x. l ≤ x.level) xs
best_all l [] p = tt
best_all l (x ∷ xs) p = let r = floor_parts l x (best xs) p in (r.0, best_all l xs r.1)

all_best : (l : ℕ) (xs : List Entry) → All (λ x. l ≤ x.level) xs → Floor l (best xs)
all_best l [] p = tt
all_best l (x ∷ xs) p = floor_from l x (best xs) p.0 (all_best l xs p.1)

some_better : (x : Entry) (o : Option Entry) → better (Some x) o ≡ None → ⊥
some_better x None p = let z : ◌≡◌ {A = ℕ} 0 1 = cc in omega arith
some_better x (Some f) p =
    elim (ltb f.level x.level) as (λ v. cond v (Some f) (Some x) ≡ None → ⊥) [
      | true ↦ λ q. let z : ◌≡◌ {A = ℕ} 0 1 = cc in omega arith
      | false ↦ λ q. let z : ◌≡◌ {A = ℕ} 0 1 = cc in omega arith
    ] p

best_nil : (xs : List Entry) → best xs ≡ None → xs ≡ []
best_nil [] p = refl
best_nil (x ∷ xs) p = absurd (some_better x (best xs) p)

pub best_kept : (p : Entry → Bool) (xs : List Entry) (e : Entry) → best xs ≡ Some e → p e ≡ true → best (filter p xs) ≡ Some e
best_kept p [] e q t = let z : ◌≡◌ {A = ℕ} 0 1 = cc in absurd (omega arith)
best_kept p (x ∷ xs) e q t = go (λ s. best_kept p xs e s t) (best xs) refl q
  where
    go : (best xs ≡ Some e → best (filter p xs) ≡ Some e) → (o : Option Entry) → best xs ≡ o → better (Some x) o ≡ Some e → best (filter p (x ∷ xs)) ≡ Some e
    go ih' None b r =
        let n = best_nil xs b in
        let s : x ≡ e = cc in
        let u : p x ≡ true = ap p s ∙ t in
        rw (u, n) (ap (λ (y : Entry). Some y) s)
    go ih' (Some f) b r =
        elim (cases_lt f.level x.level) [
          | inl lt ↦
              let k = lt-ltb f.level x.level lt in
              let s : f ≡ e = (let r' : Some f ≡ Some e = rw k at r in cc) in
              let ih = ih' (b ∙ ap (λ (y : Entry). Some y) s) in
              let k2 : ltb e.level x.level ≡ true = ap (λ (y : Entry). ltb y.level x.level) (sym s) ∙ k in
              elim (p x) as (λ v. best (cond v (x ∷ filter p xs) (filter p xs)) ≡ Some e) [
                | true ↦ rw (ih, k2)
                | false ↦ ih
              ]
          | inr ge ↦
              let k = le-ltb f.level x.level ge in
              let s : x ≡ e = (let r' : Some x ≡ Some e = rw k at r in cc) in
              let u : p x ≡ true = ap p s ∙ t in
              let fl : Floor x.level (best xs) = rw b ge in
              let al = all_best x.level (filter p xs) (all_kept_by p (λ (y : Entry). x.level ≤ y.level) xs (best_all x.level xs fl)) in
              rw u (floor_keeps x (best (filter p xs)) al ∙ ap (λ (y : Entry). Some y) s)
        ]

pub kept_none : (p : Entry → Bool) (xs : List Entry) → best xs ≡ None → best (filter p xs) ≡ None
kept_none p xs q = rw (best_nil xs q)

better_cases : (x : Entry) (o : Option Entry) (e : Entry) → better (Some x) o ≡ Some e → (x ≡ e) ⊎ (o ≡ Some e)
better_cases x None e p = inl (cc)
better_cases x (Some f) e p =
    elim (ltb f.level x.level) as (λ v. cond v (Some f) (Some x) ≡ Some e → (x ≡ e) ⊎ (Some f ≡ Some e)) [
      | true ↦ λ q. inr q
      | false ↦ λ q. inl (cc)
    ] p

pub best_has : (P : Entry → Type 0) (xs : List Entry) (e : Entry) → All P xs → best xs ≡ Some e → P e
best_has P [] e a q = let z : ◌≡◌ {A = ℕ} 0 1 = cc in absurd (omega arith)
best_has P (x ∷ xs) e a q =
    elim (better_cases x (best xs) e q) [
      | inl s ↦ subst P s a.0
      | inr s ↦ best_has P xs e a.1 s
    ]

pub task_some : (o : Option Entry) (t : ℕ) → task_of o ≡ Some t → (e : Entry) × (o ≡ Some e) × (e.task ≡ t)
task_some None t p = let z : ◌≡◌ {A = ℕ} 0 1 = cc in absurd (omega arith)
task_some (Some e) t p = (e, refl, cc)

pub task_none : (o : Option Entry) → task_of o ≡ None → o ≡ None
task_none None p = refl
task_none (Some e) p = let z : ◌≡◌ {A = ℕ} 0 1 = cc in absurd (omega arith)
