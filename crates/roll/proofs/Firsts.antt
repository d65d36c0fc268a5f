-- What is true of the task with the processor.
use Rattle.std.proofs.Common.{◌≡◌, ℕ, ◌<◌, Bool, true, false, cond, not, List, [], ◌∷◌, Some, filter, sym, refl, ap, ◌∙◌, subst, arith}
use Rattle.std.specs.List.{AllByRecursion as All}
use Rattle.std.proofs.lemmas.Bool.Decides.{nat_tests}
use Rattle.std.proofs.lemmas.Bool.{and_parts, eqb-false, eq-eqb, ne_eqb, not-true}
use Rattle.std.proofs.ByRecursion.{all_kept_by, kept_by_passes, All-weaker}
use Rattle.roll.specs.Ranges.{task?}
use Rattle.roll.specs.Entries.{of?, count_of, cleared, all_good?}
use Rattle.roll.specs.Firsts.{best, fronts, startable, first_of}
use Rattle.roll.specs.declared.entry.Entry.{Entry}
use Rattle.roll.proofs.Sounds.{task_range, good_head}
use Rattle.roll.proofs.Bests.{best_has, task_some}

-- whether the oldest entry of t is awake
abbrev pub awake_at : ℕ → List Entry → Bool
awake_at t [] = false
awake_at t (e ∷ es) = cond (of? t e) (not e.asleep) (awake_at t es)

-- What is true of the oldest entry of each task is true of the first's, which may have the processor.
pub first_is : (P : Entry → Type 0) (held : ℕ → Bool) (es : List Entry) (t : ℕ) → All P (fronts es) → first_of held es ≡ Some t → (e : Entry) × P e × (startable held e ≡ true) × (e.task ≡ t)
first_is P held es t a p =
    let xs = filter (startable held) (fronts es) in
    let w = task_some (best xs) t p in
    let k = best_has P xs w.0 (all_kept_by (startable held) P (fronts es) a) w.1 in
    let s = best_has (λ x. startable held x ≡ true) xs w.0 (kept_by_passes (startable held) (fronts es)) w.1 in
    (w.0, k, s, w.2)

-- ---- it is a task, with an entry
fronts_good : (es : List Entry) → all_good? es ≡ true → All (λ e. task? e.task ≡ true) (fronts es)
fronts_good [] g = tt
fronts_good (e ∷ es) g =
    let q = good_head e es g in
    (q.0, all_kept_by (λ x. not (of? e.task x)) (λ x. task? x.task ≡ true) (fronts es) (fronts_good es q.1))

pub first_task : (held : ℕ → Bool) (es : List Entry) (t : ℕ) → all_good? es ≡ true → first_of held es ≡ Some t → task? t ≡ true
first_task held es t g p =
    let w = first_is (λ e. task? e.task ≡ true) held es t (fronts_good es g) p in
    ap task? (sym w.3) ∙ w.1

pub first_below : (held : ℕ → Bool) (es : List Entry) (t : ℕ) → all_good? es ≡ true → first_of held es ≡ Some t → (0 < t) × (t < 128)
first_below held es t g p = task_range t (first_task held es t g p)

fronts_has : (es : List Entry) → All (λ e. 0 < count_of e.task es) (fronts es)
fronts_has [] = tt
fronts_has (e ∷ es) =
    let more : (x : Entry) → 0 < count_of x.task es → 0 < count_of x.task (e ∷ es) = (λ x p. grind (arith, nat_tests)) in
    let head : 0 < count_of e.task (e ∷ es) = grind (arith, nat_tests) in
    (head, all_kept_by (λ x. not (of? e.task x)) (λ x. 0 < count_of x.task (e ∷ es)) (fronts es) (All-weaker (λ x. 0 < count_of x.task es) (λ x. 0 < count_of x.task (e ∷ es)) more (fronts es) (fronts_has es)))

pub first_has : (held : ℕ → Bool) (es : List Entry) (t : ℕ) → first_of held es ≡ Some t → 0 < count_of t es
first_has held es t p =
    let w = first_is (λ e. 0 < count_of e.task es) held es t (fronts_has es) p in
    subst (λ (n : ℕ). 0 < count_of n es) w.3 w.1

-- ---- it is not held, and its oldest entry is awake
pub first_free : (held : ℕ → Bool) (es : List Entry) (t : ℕ) → all_good? es ≡ true → first_of held es ≡ Some t → held t ≡ false
first_free held es t g p =
    let w = first_is (λ e. task? e.task ≡ true) held es t (fronts_good es g) p in
    let a = and_parts (not w.0.asleep) (not (held w.0.task)) w.2 in
    ap held (sym w.3) ∙ not-true (held w.0.task) a.1

others_awake : (e : Entry) (es F : List Entry) → All (λ x. awake_at x.task es ≡ not x.asleep) F → All (λ x. awake_at x.task (e ∷ es) ≡ not x.asleep) (cleared e.task F)
others_awake e es [] a = tt
others_awake e es (x ∷ F) a =
    elim (of? e.task x) as (λ v. of? e.task x ≡ v → All (λ y. awake_at y.task (e ∷ es) ≡ not y.asleep) (cond (not v) (x ∷ cleared e.task F) (cleared e.task F))) [
      | true ↦ λ v. others_awake e es F a.1
      | false ↦ λ v. (let n = ne_eqb e.task x.task (λ s. eqb-false x.task e.task v (sym s)) in rw n a.0, others_awake e es F a.1)
    ] refl

fronts_awake : (es : List Entry) → All (λ e. awake_at e.task es ≡ not e.asleep) (fronts es)
fronts_awake [] = tt
fronts_awake (e ∷ es) = (rw (eq-eqb e.task e.task refl), others_awake e es (fronts es) (fronts_awake es))

pub first_awake : (held : ℕ → Bool) (es : List Entry) (t : ℕ) → first_of held es ≡ Some t → awake_at t es ≡ true
first_awake held es t p =
    let w = first_is (λ e. awake_at e.task es ≡ not e.asleep) held es t (fronts_awake es) p in
    let a = and_parts (not w.0.asleep) (not (held w.0.task)) w.2 in
    ap (λ n. awake_at n es) (sym w.3) ∙ w.1 ∙ a.0
