-- The best of a list of entries by level and age, and the oldest entry of each task.
use Rattle.std.proofs.Common.{◌≡◌, ℕ, suc, ◌<◌, ◌≤◌, Bool, true, false, not, eqb, ltb, ◌⊎◌, List, [], ◌∷◌, map, Some, None, filter, Option, sym, refl, ◌∙◌, subst, inl, inr, arith}
use Rattle.std.specs.List.{AllByRecursion as All}
use Rattle.std.proofs.lemmas.Bool.{cases_Bool, cond_both, eqb-true, eqb-false, cond-true, cond-false, eq-eqb, ne_eqb, ltb-true, ltb-false, not-true, not_from_false, both_ways, cases_order}
use Rattle.std.proofs.ByRecursion.{All-weaker}
use Rattle.roll.specs.declared.entry.Entry.{Entry}
use Rattle.roll.specs.Entries.{of?, count_of, cleared}
use Rattle.roll.specs.Firsts.{fronts, better, best}
use Rattle.laws.proofs.Marks.{marks_of}
use Rattle.laws.proofs.Starts.{Start, tasks}
use Rattle.laws.proofs.Stamps.{Rising, first_stamp}

-- of two entries, by level and then by age
abbrev pub Bef : (ℕ → ℕ) → Entry → Entry → Type 0
Bef a e f = (e.level < f.level) ⊎ ((e.level ≡ f.level) × (a e.task ≤ a f.task))

abbrev pub Ordered : (ℕ → ℕ) → List Entry → Type 0
Ordered a [] = Unit {0}
Ordered a (e ∷ es) = All (λ (f : Entry). a e.task ≤ a f.task) es × Ordered a es

abbrev pub BestOf : (ℕ → ℕ) → List Entry → Option Entry → Type 0
BestOf a l None = All (λ (_ : Entry). ⊥) l
BestOf a l (Some e) = All (Bef a e) l

abbrev pub Holds : (Entry → Type 0) → Option Entry → Type 0
Holds P None = Unit {0}
Holds P (Some e) = P e

pub best_is : (P : Entry → Type 0) (l : List Entry) → All P l → Holds P (best l)
best_is P [] h = tt
best_is P (x ∷ xs) h = go (best xs) (best_is P xs h.1)
  where
    go : (o : Option Entry) → Holds P o → Holds P (better (Some x) o)
    go None i = h.0
    go (Some y) i = cond_both (ltb y.level x.level) (Some y) (Some x) (Holds P) (λ _. i) (λ _. h.0)

pub both : (P Q : Entry → Type 0) (l : List Entry) → All P l → All Q l → All (λ (e : Entry). P e × Q e) l
both P Q [] p q = tt
both P Q (x ∷ xs) p q = ((p.0, q.0), both P Q xs p.1 q.1)

bef_after : (a : ℕ → ℕ) (x y f : Entry) → x.level ≤ y.level → Bef a y f → a x.task ≤ a f.task → Bef a x f
bef_after a x y f h (inl k) g = inl (omega arith)
bef_after a x y f h (inr k) g = go (cases_order x.level f.level)
  where
    go : (x.level ≡ f.level) ⊎ ((x.level < f.level) ⊎ (f.level < x.level)) → Bef a x f
    go (inl e) = inr (e, g)
    go (inr (inl e)) = inl e
    go (inr (inr e)) = absurd (let w = k.0 in let z : ⊥ = omega arith in z)

pub best_first : (a : ℕ → ℕ) (l : List Entry) → Ordered a l → BestOf a l (best l)
best_first a [] h = tt
best_first a (x ∷ xs) h = go (best xs) (best_first a xs h.1)
  where
    go : (o : Option Entry) → BestOf a xs o → BestOf a (x ∷ xs) (better (Some x) o)
    go None i = (inr (refl, (let z : a x.task ≤ a x.task = omega arith in z)), All-weaker (λ (_ : Entry). ⊥) (Bef a x) (λ f z. absurd z) xs i)
    go (Some y) i = cond_both (ltb y.level x.level) (Some y) (Some x) (BestOf a (x ∷ xs))
        (λ e. (inl (ltb-true y.level x.level e), i))
        (λ e. (
          inr (refl, (let z : a x.task ≤ a x.task = omega arith in z)),
          All-weaker (λ (f : Entry). Bef a y f × (a x.task ≤ a f.task)) (Bef a x) (λ f p. bef_after a x y f (ltb-false y.level x.level e) p.0 p.1) xs
              (both (Bef a y) (λ (f : Entry). a x.task ≤ a f.task) xs i h.0),
        ))

-- what a filter keeps
pub all_kept : (p : Entry → Bool) (P Q : Entry → Type 0) (l : List Entry) → ((e : Entry) → p e ≡ true → P e → Q e) → All P l → All Q (filter p l)
all_kept p P Q [] f h = tt
all_kept p P Q (x ∷ xs) f h = cond_both (p x) (x ∷ filter p xs) (filter p xs) (All Q) (λ e. (f x e h.0, all_kept p P Q xs f h.1)) (λ e. all_kept p P Q xs f h.1)

pub all_unkept : (p : Entry → Bool) (P : Entry → Type 0) (l : List Entry) → All P (filter p l) → All (λ (e : Entry). p e ≡ true → P e) l
all_unkept p P [] h = tt
all_unkept p P (x ∷ xs) h = go (cases_Bool (p x)) (λ g. all_unkept p P xs g)
  where
    go : (p x ≡ true) ⊎ (p x ≡ false) → (All P (filter p xs) → All (λ (e : Entry). p e ≡ true → P e) xs) → (p x ≡ true → P x) × All (λ (e : Entry). p e ≡ true → P e) xs
    go (inl y) rec = let g : All P (x ∷ filter p xs) = subst (All P) (cond-true (p x) (x ∷ filter p xs) (filter p xs) y) h in ((λ _. g.0), rec g.1)
    go (inr y) rec = let g : All P (filter p xs) = subst (All P) (cond-false (p x) (x ∷ filter p xs) (filter p xs) y) h in ((λ t. absurd (both_ways (p x) y t)), rec g)

-- the fronts: each is the oldest of its task, and each task has one
abbrev pub Oldest : List Entry → Entry → Type 0
Oldest es f = (bs : List Bool) × (marks_of f.task es ≡ f.asleep ∷ bs)

marks_skip : (e : Entry) (es : List Entry) (t : ℕ) → of? t e ≡ false → marks_of t (e ∷ es) ≡ marks_of t es
marks_skip e es t h = cond-false (of? t e) (e.asleep ∷ marks_of t es) (marks_of t es) h

pub fronts_lead : (es : List Entry) → All (Oldest es) (fronts es)
fronts_lead [] = tt
fronts_lead (e ∷ es) = (
  (marks_of e.task es, cond-true (of? e.task e) (e.asleep ∷ marks_of e.task es) (marks_of e.task es) (eq-eqb e.task e.task refl)),
  all_kept (λ f. not (of? e.task f)) (Oldest es) (Oldest (e ∷ es)) (fronts es)
      (λ f n p. (p.0, marks_skip e es f.task (ne_eqb e.task f.task (λ q. eqb-false f.task e.task (not-true (of? e.task f) n) (sym q))) ∙ p.1))
      (fronts_lead es),
)

pub all_fronts : (P : Entry → Type 0) (es : List Entry) → All P es → All P (fronts es)
all_fronts P [] h = tt
all_fronts P (e ∷ es) h = (h.0, all_kept (λ f. not (of? e.task f)) P P (fronts es) (λ f n p. p) (all_fronts P es h.1))

pub front_of : (t : ℕ) (es : List Entry) → 0 < count_of t es → (P : Entry → Type 0) → All P (fronts es) → (f : Entry) × (f.task ≡ t) × P f
front_of t [] h P a = absurd (let z : ⊥ = omega arith in z)
front_of t (e ∷ es) h P a = go (cases_Bool (of? t e)) (λ k b. front_of t es k (λ f. not (of? e.task f) ≡ true → P f) b)
  where
    go : (of? t e ≡ true) ⊎ (of? t e ≡ false) → (0 < count_of t es → All (λ (f : Entry). not (of? e.task f) ≡ true → P f) (fronts es) → (f : Entry) × (f.task ≡ t) × (not (of? e.task f) ≡ true → P f))
        → (f : Entry) × (f.task ≡ t) × P f
    go (inl y) rec = (e, eqb-true e.task t y, a.0)
    go (inr y) rec =
        let k : 0 < count_of t es = subst (λ n. 0 < n) (cond-false (of? t e) (suc (count_of t es)) (count_of t es) y) h in
        let r = rec k (all_unkept (λ f. not (of? e.task f)) P (fronts es) a.1) in
        (r.0, r.1, r.2 (not_from_false (of? e.task r.0) (ne_eqb r.0.task e.task (λ q. eqb-false e.task t y (sym q ∙ r.1)))))

abbrev pub tasks_of : List Entry → List ℕ
tasks_of es = map (λ (e : Entry). e.task) es

stamp_from : (m d t : ℕ) (xs : List Start) → m ≤ d → All (λ (y : Start). m ≤ y.stamp) xs → m ≤ first_stamp d t xs
stamp_from m d t [] h a = h
stamp_from m d t (x ∷ xs) h a = cond_both (eqb x.task t) x.stamp (first_stamp d t xs) (λ n. m ≤ n) (λ _. a.0) (λ _. stamp_from m d t xs h a.1)

all_any : (P : Entry → Type 0) (l : List Entry) → ((e : Entry) → P e) → All P l
all_any P [] f = tt
all_any P (x ∷ xs) f = (f x, all_any P xs f)

pub ordered_kept : (a c : ℕ → ℕ) (p : Entry → Bool) (l : List Entry) → ((f : Entry) → p f ≡ true → c f.task ≡ a f.task) → Ordered c l → Ordered a (filter p l)
ordered_kept a c p [] q o = tt
ordered_kept a c p (x ∷ xs) q o = cond_both (p x) (x ∷ filter p xs) (filter p xs) (Ordered a)
    (λ e. (all_kept p (λ (f : Entry). c x.task ≤ c f.task) (λ (f : Entry). a x.task ≤ a f.task) xs (λ f n g. (let u = q x e in let v = q f n in omega arith)) o.0, ordered_kept a c p xs q o.1))
    (λ e. ordered_kept a c p xs q o.1)

pub fronts_ordered : (d : ℕ) (es : List Entry) (xs : List Start) → tasks_of es ≡ tasks xs → Rising xs → All (λ (y : Start). y.stamp ≤ d) xs → Ordered (λ t. first_stamp d t xs) (fronts es)
fronts_ordered d [] xs q r b = tt
fronts_ordered d (e ∷ es) [] q r b = absurd (let z : ◌≡◌ {A = ℕ} 0 1 = cc in omega arith)
fronts_ordered d (e ∷ es) (x ∷ xs) q r b =
    let s : e.task ≡ x.task = cc in
    let w : first_stamp d e.task (x ∷ xs) ≡ x.stamp = cond-true (eqb x.task e.task) x.stamp (first_stamp d e.task xs) (eq-eqb x.task e.task (sym s)) in
    let from : (f : Entry) → first_stamp d e.task (x ∷ xs) ≤ first_stamp d f.task (x ∷ xs) =
    λ f. subst (λ n. n ≤ first_stamp d f.task (x ∷ xs)) (sym w) (stamp_from x.stamp d f.task (x ∷ xs) b.0 ((let z : x.stamp ≤ x.stamp = omega arith in z), r.0)) in (
      all_any (λ (f : Entry). first_stamp d e.task (x ∷ xs) ≤ first_stamp d f.task (x ∷ xs)) (cleared e.task (fronts es)) from,
      ordered_kept (λ t. first_stamp d t (x ∷ xs)) (λ t. first_stamp d t xs) (λ f. not (of? e.task f)) (fronts es)
          (λ f n. sym (cond-false (eqb x.task f.task) x.stamp (first_stamp d f.task xs) (ne_eqb x.task f.task (λ k. eqb-false f.task e.task (not-true (of? e.task f) n) (sym k ∙ sym s)))))
          (fronts_ordered d es xs (cc) r.1 b.1),
    )
