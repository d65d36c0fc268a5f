-- A task that is put to sleep and roused again, and the first with some tasks held.
use Rattle.std.proofs.Common.{◌≡◌, ℕ, suc, ◌≤◌, Bool, true, false, cond, not, ◌&&◌, List, [], ◌∷◌, length, Some, None, filter, sym, refl, ap, ◌∙◌, inl, inr, arith}
use Rattle.std.proofs.lemmas.Bool.{and_right, eqb-true, eq-eqb, ne_eqb, cases_eq, not-true}
use Rattle.roll.specs.Tables.{none}
use Rattle.roll.specs.Entries.{of?, cleared, marking, marked}
use Rattle.roll.specs.Firsts.{best, fronts, startable, first_of, task_of}
use Rattle.roll.specs.declared.entry.Entry.{Entry}
use Rattle.roll.proofs.Bests.{kept_by_same, kept_by_both, best_kept, kept_none, task_some, task_none}
use Rattle.roll.proofs.Firsts.{awake_at}

-- how many entries are awake
abbrev pub awakes : List Entry → ℕ
awakes [] = 0
awakes (e ∷ es) = cond e.asleep (awakes es) (suc (awakes es))

roused_head : (e : Entry) → not e.asleep ≡ true → marked false (marked true e) ≡ e
roused_head e p = let q = not-true e.asleep p in ap (λ (b : Bool). marked b e) (sym q)

pub roused_slept : (t : ℕ) (es : List Entry) → awake_at t es ≡ true → marking false t (marking true t es) ≡ es
roused_slept t [] p = refl
roused_slept t (e ∷ es) p =
    elim (of? t e) as (λ v. of? t e ≡ v → cond v (not e.asleep) (awake_at t es) ≡ true → marking false t (cond v (marked true e ∷ es) (e ∷ marking true t es)) ≡ e ∷ es) [
      | true ↦ λ v q. rw v (ap (λ x. x ∷ es) (roused_head e q))
      | false ↦ λ v q. rw v (ap (λ l. e ∷ l) (roused_slept t es q))
    ] refl p

pub awakes_slept : (t : ℕ) (es : List Entry) → awake_at t es ≡ true → suc (awakes (marking true t es)) ≡ awakes es
awakes_slept t [] p = grind arith
awakes_slept t (e ∷ es) p =
    elim (of? t e) as (λ v. cond v (not e.asleep) (awake_at t es) ≡ true → suc (awakes (cond v (marked true e ∷ es) (e ∷ marking true t es))) ≡ awakes (e ∷ es)) [
      | true ↦ λ q. let r = not-true e.asleep q in rw r refl
      | false ↦ λ q. let h = awakes_slept t es q in grind arith
    ] p

pub awakes_le : (es : List Entry) → awakes es ≤ length es
awakes_le [] = omega arith
awakes_le (e ∷ es) = let h = awakes_le es in grind arith

-- ---- fronts and marks
cleared_marking_other : (b : Bool) (t u : ℕ) (es : List Entry) → (u ≡ t → ⊥) → cleared u (marking b t es) ≡ marking b t (cleared u es)
cleared_marking_other b t u [] n = refl
cleared_marking_other b t u (e ∷ es) n =
    let ih = cleared_marking_other b t u es n in
    elim (cases_eq e.task t) [
      | inl p ↦ let x = eq-eqb e.task t p in let y = ne_eqb e.task u (λ q. n (sym q ∙ p)) in rw (x, y, x)
      | inr p ↦
          let x = ne_eqb e.task t p in
          elim (cases_eq e.task u) [
            | inl q ↦ let y = eq-eqb e.task u q in rw (x, y) ih
            | inr q ↦ let y = ne_eqb e.task u q in rw (x, y, x) (ap (λ l. e ∷ l) ih)
          ]
    ]

pub fronts_marking : (b : Bool) (t : ℕ) (es : List Entry) → fronts (marking b t es) ≡ marking b t (fronts es)
fronts_marking b t [] = refl
fronts_marking b t (e ∷ es) =
    let ih = fronts_marking b t es in
    elim (cases_eq e.task t) [
      | inl p ↦ let x = eq-eqb e.task t p in rw x
      | inr p ↦ let x = ne_eqb e.task t p in rw x (ap (λ l. e ∷ l) (ap (cleared e.task) ih ∙ cleared_marking_other b t e.task (fronts es) p))
    ]

-- what does not pass, with the mark or without, is not kept
kept_marking : (p : Entry → Bool) (b : Bool) (t : ℕ) (es : List Entry) → ((e : Entry) → of? t e ≡ true → (p e ≡ false) × (p (marked b e) ≡ false)) → filter p (marking b t es) ≡ filter p es
kept_marking p b t [] h = refl
kept_marking p b t (e ∷ es) h =
    elim (of? t e) as (λ v. of? t e ≡ v → filter p (cond v (marked b e ∷ es) (e ∷ marking b t es)) ≡ filter p (e ∷ es)) [
      | true ↦ λ v. let k = h e v in rw (k.0, k.1)
      | false ↦ λ v. ap (λ l. cond (p e) (e ∷ l) l) (kept_marking p b t es h)
    ] refl

held_out : (held : ℕ → Bool) (t : ℕ) → held t ≡ true → (e : Entry) → of? t e ≡ true → startable held e ≡ false
held_out held t q e v = let p = eqb-true e.task t v in and_right (not e.asleep) (not (held e.task)) (rw (p, q) refl)

-- to put a held task to sleep does not change the first
pub first_slept : (held : ℕ → Bool) (t : ℕ) (es : List Entry) → held t ≡ true → first_of held (marking true t es) ≡ first_of held es
first_slept held t es q =
    ap (λ l. task_of (best l)) (ap (filter (startable held)) (fronts_marking true t es) ∙ kept_marking (startable held) true t (fronts es) (λ e v. (held_out held t q e v, held_out held t q (marked true e) v)))

-- ---- the first with some held, from the first with none
-- whether the task of the entry is not held
abbrev loose : (ℕ → Bool) → Entry → Bool
loose held e = not (held e.task)

startable_loose : (held : ℕ → Bool) (xs : List Entry) → filter (startable held) xs ≡ filter (loose held) (filter (startable none) xs)
startable_loose held xs =
    sym (kept_by_both (loose held) (startable none) xs ∙ kept_by_same (λ x. startable none x && loose held x) (startable held) (λ x. elim x.asleep as (λ v. ((not v && true) && loose held x) ≡ (not v && loose held x)) [ true ↦ refl | false ↦ refl ]) xs)

pub first_held_some : (held : ℕ → Bool) (es : List Entry) (t : ℕ) → first_of none es ≡ Some t → held t ≡ false → first_of held es ≡ Some t
first_held_some held es t p q =
    let w = task_some (best (filter (startable none) (fronts es))) t p in
    let l : loose held w.0 ≡ true = rw (w.2, q) refl in
    ap (λ xs. task_of (best xs)) (startable_loose held (fronts es)) ∙ ap task_of (best_kept (loose held) (filter (startable none) (fronts es)) w.0 w.1 l) ∙ ap (λ (n : ℕ). Some n) w.2

pub first_held_none : (held : ℕ → Bool) (es : List Entry) → first_of none es ≡ None → first_of held es ≡ None
first_held_none held es p =
    let w = task_none (best (filter (startable none) (fronts es))) p in
    ap (λ xs. task_of (best xs)) (startable_loose held (fronts es)) ∙ ap task_of (kept_none (loose held) (filter (startable none) (fronts es)) w)
