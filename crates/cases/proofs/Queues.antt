-- A start behind that of the task with the processor, of a level that is no better, leaves the processor with it.
use Rattle.std.proofs.Common.{◌≡◌, ℕ, ◌<◌, ◌≤◌, Bool, true, false, cond, not, ◌⊎◌, List, [], ◌∷◌, ◌++◌, Some, None, filter, Option, sym, refl, ap, ◌∙◌, inl, inr, arith}
use Rattle.std.specs.List.{AllByRecursion as All}
use Rattle.std.proofs.lemmas.Bool.{eqb-false, eq-eqb, ne_eqb, le-ltb}
use Rattle.std.proofs.ByRecursion.{all_kept_by}
use Rattle.std.proofs.lemmas.List.{append-nil}
use Rattle.roll.specs.declared.entry.Entry.{Entry}
use Rattle.roll.specs.Entries.{of?, cleared}
use Rattle.roll.specs.Firsts.{better, best, fronts, startable, first_of, task_of}
use Rattle.roll.proofs.Bests.{better_assoc, best_has, task_some}
use Rattle.rules.specs.State.{numbered}
use Rattle.cases.specs.Edges.{current_level}

-- ---- the fronts with one entry more
kept_push : (p : Entry → Bool) (xs : List Entry) (x : Entry) → filter p (xs ++ (x ∷ [])) ≡ filter p xs ++ cond (p x) (x ∷ []) []
kept_push p [] x = refl
kept_push p (y ∷ xs) x =
    elim (p y) as (λ v. cond v (y ∷ filter p (xs ++ (x ∷ []))) (filter p (xs ++ (x ∷ []))) ≡ cond v (y ∷ filter p xs) (filter p xs) ++ cond (p x) (x ∷ []) []) [
      | true ↦ ap (λ (l : List Entry). y ∷ l) (kept_push p xs x)
      | false ↦ kept_push p xs x
    ]

-- one more at the end, or the same
abbrev Grows : Entry → List Entry → List Entry → Type 0
Grows x ys xs = (ys ≡ xs ++ (x ∷ [])) ⊎ (ys ≡ xs)

grows_kept : (p : Entry → Bool) (x : Entry) (ys xs : List Entry) → Grows x ys xs → Grows x (filter p ys) (filter p xs)
grows_kept p x ys xs (inr e) = inr (ap (filter p) e)
grows_kept p x ys xs (inl e) =
    elim (p x) as (λ v. filter p ys ≡ filter p xs ++ cond v (x ∷ []) [] → Grows x (filter p ys) (filter p xs)) [
      | true ↦ λ q. inl q
      | false ↦ λ q. inr (q ∙ append-nil (filter p xs))
    ] (ap (filter p) e ∙ kept_push p xs x)

fronts_grow : (es : List Entry) (x : Entry) → Grows x (fronts (es ++ (x ∷ []))) (fronts es)
fronts_grow [] x = inl refl
fronts_grow (e ∷ es) x = cons (grows_kept (λ y. not (of? e.task y)) x (fronts (es ++ (x ∷ []))) (fronts es) (fronts_grow es x))
  where
    cons : {ys xs : List Entry} → Grows x ys xs → Grows x (e ∷ ys) (e ∷ xs)
    cons (inl q) = inl (ap (λ (l : List Entry). e ∷ l) q)
    cons (inr q) = inr (ap (λ (l : List Entry). e ∷ l) q)

-- ---- the best with one entry more
best_push : (xs : List Entry) (x : Entry) → best (xs ++ (x ∷ [])) ≡ better (best xs) (Some x)
best_push [] x = refl
best_push (y ∷ xs) x = ap (better (Some y)) (best_push xs x) ∙ sym (better_assoc (Some y) (best xs) (Some x))

best_stays : (x e : Entry) (ys xs : List Entry) → Grows x ys xs → best xs ≡ Some e → e.level ≤ x.level → best ys ≡ Some e
best_stays x e ys xs (inr q) p l = ap best q ∙ p
best_stays x e ys xs (inl q) p l = ap best q ∙ best_push xs x ∙ ap (λ (o : Option Entry). better o (Some x)) p ∙ rw (le-ltb x.level e.level l) refl

-- ---- the level of the first
others_level : (e : Entry) (es F : List Entry) → All (λ x. current_level x.task es ≡ x.level) F → All (λ x. current_level x.task (e ∷ es) ≡ x.level) (cleared e.task F)
others_level e es [] a = tt
others_level e es (x ∷ F) a =
    elim (of? e.task x) as (λ v. of? e.task x ≡ v → All (λ y. current_level y.task (e ∷ es) ≡ y.level) (cond (not v) (x ∷ cleared e.task F) (cleared e.task F))) [
      | true ↦ λ v. others_level e es F a.1
      | false ↦ λ v. (let n = ne_eqb e.task x.task (λ s. eqb-false x.task e.task v (sym s)) in rw n a.0, others_level e es F a.1)
    ] refl

fronts_level : (es : List Entry) → All (λ e. current_level e.task es ≡ e.level) (fronts es)
fronts_level [] = tt
fronts_level (e ∷ es) = (rw (eq-eqb e.task e.task refl), others_level e es (fronts es) (fronts_level es))

pub first_stays : (held : ℕ → Bool) (es : List Entry) (x : Entry) (r : ℕ) → first_of held es ≡ Some r → current_level r es ≤ x.level → first_of held (es ++ (x ∷ [])) ≡ Some r
first_stays held es x r p l =
    let xs = filter (startable held) (fronts es) in
    let w = task_some (best xs) r p in
    let v = best_has (λ e. current_level e.task es ≡ e.level) xs w.0 (all_kept_by (startable held) (λ e. current_level e.task es ≡ e.level) (fronts es) (fronts_level es)) w.1 in
    let u : current_level r es ≡ w.0.level = ap (λ t. current_level t es) (sym w.2) ∙ v in
    let k : w.0.level ≤ x.level = omega arith in
    ap task_of (best_stays x w.0 (filter (startable held) (fronts (es ++ (x ∷ [])))) xs (grows_kept (startable held) x (fronts (es ++ (x ∷ []))) (fronts es) (fronts_grow es x)) w.1 k)
    ∙ ap (λ (n : ℕ). Some n) w.2

pub numbered_some : (o : Option ℕ) (r : ℕ) → 0 < r → numbered o ≡ r → o ≡ Some r
numbered_some None r p q = absurd (let z : ⊥ = omega arith in z)
numbered_some (Some t) r p q = ap (λ (n : ℕ). Some n) q
