-- The walk of `scan::first` finds what `first_of` says.
use Rattle.std.proofs.Common.{◌≡◌, ℕ, ◌<◌, Bool, true, false, cond, not, ◌&&◌, ◌≢◌, List, [], ◌∷◌, length, get_or, set, replicate, Some, None, filter, Option, sym, refl, ap, ◌∙◌, inl, inr, arith}
use Rattle.std.proofs.lemmas.Bool.{eq-eqb, ne_eqb, cases_eq, cases_lt, cases_Bool}
use Rattle.std.proofs.lemmas.List.{get_or-set_same, get_or-set_other, length-set, get_or-replicate, length-replicate, get_or_past}
use Rattle.roll.specs.Tables.{none}
use Rattle.roll.proofs.Sounds.{good_head, task_range}
use Rattle.roll.specs.Entries.{cleared, of?, all_good?}
use Rattle.roll.specs.Firsts.{better, best, fronts, startable, first_of, task_of}
use Rattle.roll.proofs.Bests.{better_none, better_assoc, kept_by_same, kept_by_both}
use Rattle.roll.specs.declared.entry.Entry.{Entry}
use Rattle.packed.specs.Scans.{taken}

-- the best, where b is the best of what was passed, and `seen` has the tasks of it
abbrev pub walk : List Bool → Option Entry → List Entry → Option Entry
walk seen b [] = b
walk seen b (e ∷ es) = cond (get_or seen e.task false) (walk seen b es) (walk (set seen e.task true) (taken b e) es)

-- the tasks of the entries can be looked up in `seen`
below_head : (e : Entry) (es : List Entry) → all_good? (e ∷ es) ≡ true → (e.task < 128) × (all_good? es ≡ true)
below_head e es p = let q = good_head e es p in ((task_range e.task q.0).1, q.1)

-- whether the task of the entry was not seen
abbrev fresh : List Bool → Entry → Bool
fresh seen e = not (get_or seen e.task false)

-- whether the entry is of another task
abbrev other : ℕ → Entry → Bool
other t e = not (of? t e)

-- with t seen, the others of t are none
fresh_set : (seen : List Bool) (t : ℕ) → t < length seen → (x : Entry) → fresh (set seen t true) x ≡ (other t x && fresh seen x)
fresh_set seen t lt x =
    elim (cases_eq x.task t) [
      | inl e ↦ let a = get_or-set_same seen t true false lt in let b = eq-eqb x.task t e in rw (b, e, a)
      | inr n ↦ let b = ne_eqb x.task t n in let m : x.task ≢ t = n in rw (b, get_or-set_other seen t x.task true false m)
    ]

fresh_seen : (seen : List Bool) (t : ℕ) → get_or seen t false ≡ true → (x : Entry) → (other t x && fresh seen x) ≡ fresh seen x
fresh_seen seen t s x =
    elim (cases_eq x.task t) [
      | inl e ↦ let b = eq-eqb x.task t e in rw (b, e, s)
      | inr n ↦ let b = ne_eqb x.task t n in rw b
    ]

taken_step : (b : Option Entry) (e : Entry) (K : List Entry) → better (taken b e) (best K) ≡ better b (best (cond (startable none e) (e ∷ K) K))
taken_step b e K =
    elim e.asleep as (λ v. better (cond v b (better b (Some e))) (best K) ≡ better b (best (cond (not v && true) (e ∷ K) K))) [
      | true ↦ refl
      | false ↦ better_assoc b (Some e) (best K)
    ]

pub walk_best : (es : List Entry) (seen : List Bool) (b : Option Entry) → length seen ≡ 128 → all_good? es ≡ true → walk seen b es ≡ better b (best (filter (startable none) (filter (fresh seen) (fronts es))))
walk_best [] seen b n g = sym (better_none b)
walk_best (e ∷ es) seen b n g =
    let t = e.task in
    let h = below_head e es g in
    let lt : t < length seen = omega arith in
    let F = fronts es in
    let m = length-set seen t true in
    elim (cases_Bool (get_or seen t false)) [
      | inl s ↦
          let ih = walk_best es seen b n h.1 in
          let k : filter (fresh seen) (cleared t F) ≡ filter (fresh seen) F = kept_by_both (fresh seen) (other t) F ∙ kept_by_same (λ x. other t x && fresh seen x) (fresh seen) (fresh_seen seen t s) F in
          rw (s, k) ih
      | inr s ↦
          let ih = walk_best es (set seen t true) (taken b e) (m ∙ n) h.1 in
          let k : filter (fresh seen) (cleared t F) ≡ filter (fresh (set seen t true)) F = kept_by_both (fresh seen) (other t) F ∙ sym (kept_by_same (fresh (set seen t true)) (λ x. other t x && fresh seen x) (fresh_set seen t lt) F) in
          rw (s, k) (ih ∙ taken_step b e (filter (startable none) (filter (fresh (set seen t true)) F)))
    ]

none_seen : (n i : ℕ) → get_or (replicate n false) i false ≡ false
none_seen n i =
    elim (cases_lt i n) [
      | inl lt ↦ get_or-replicate n i false false lt
      | inr ge ↦ let h = length-replicate n false in get_or_past (replicate n false) i false (omega arith)
    ]

unseen_all : (n : ℕ) (xs : List Entry) → filter (fresh (replicate n false)) xs ≡ xs
unseen_all n [] = refl
unseen_all n (x ∷ xs) = rw (none_seen n x.task, unseen_all n xs)

pub walk_first : (es : List Entry) → all_good? es ≡ true → task_of (walk (replicate 128 false) None es) ≡ first_of none es
walk_first es g =
    let h = walk_best es (replicate 128 false) None (length-replicate 128 false) g in
    ap task_of (h ∙ ap (λ l. best (filter (startable none) l)) (unseen_all 128 (fronts es)))
