-- A roll from which task after task is cleared and unheld.
use Rattle.std.proofs.Common.{◌≡◌, ℕ, suc, ◌+◌, ◌<◌, Bool, true, false, ◌&&◌, List, [], ◌∷◌, sym, refl, ap, ◌∙◌, subst, inl, inr, arith}
use mathlib.Core.Path.{fun_ext}
use Rattle.std.proofs.lemmas.Bool.{cases_Bool, cases_eq, both_ways, cond-true, cond-false, eq-eqb, ne_eqb, and_from, and_right}
use Rattle.roll.specs.Ranges.{task?}
use Rattle.roll.specs.Tables.{put, none}
use Rattle.roll.specs.Entries.{count_of, all_good?}
use Rattle.roll.specs.Model.{Model, Sound, empty, after_clear, after_unhold, may_unhold}
use Rattle.roll.specs.declared.entry.Entry.{Entry}
use Rattle.roll.proofs.Counts.{count_cleared}
use Rattle.roll.proofs.Sounds.{task_range, good_head, count_outside}
use Rattle.roll.proofs.Tables.{put_kept}

-- the tasks below n have no entry and are not held
abbrev pub EmptyBelow : ℕ → Model → Type 0
EmptyBelow n m = (u : ℕ) → u < n → (count_of u m.entries ≡ 0) × (m.held u ≡ false)

-- there is no task 0
pub empty_none : (m : Model) → Sound m → EmptyBelow 1 m
empty_none m s u lt =
    let z : u ≡ 0 = omega arith in
    let out : task? u ≡ false = rw z refl in (
      count_outside u m.entries s.0.0 out,
      elim (cases_Bool (m.held u)) [
        | inl h ↦ absurd (both_ways (task? u) out (s.1 u h))
        | inr h ↦ h
      ],
    )

-- ---- one more task, cleared and then unheld
-- without a lever nobody is held, so that unhold always leaves the task unheld
pub unheld : (lever : Bool) (t : ℕ) (m : Model) → (lever ≡ false → m.held ≡ none) → task? t ≡ true → after_unhold lever t m ≡ record { entries = m.entries; held = put m.held t false }
unheld lever t m free p =
    elim (cases_Bool (m.held t)) [
      | inl h ↦
          let l : lever ≡ true = elim (cases_Bool lever) [ inl q ↦ q | inr q ↦ absurd (both_ways (m.held t) (ap (λ (f : ℕ → Bool). f t) (free q)) h) ] in
          cond-true (may_unhold lever t m) (record { entries = m.entries; held = put m.held t false }) m (and_from lever (task? t && m.held t) l (and_from (task? t) (m.held t) p h))
      | inr h ↦
          let k : may_unhold lever t m ≡ false = and_right lever (task? t && m.held t) (and_right (task? t) (m.held t) h) in
          cond-false (may_unhold lever t m) (record { entries = m.entries; held = put m.held t false }) m k ∙ ap (λ (f : ℕ → Bool). record { entries = m.entries; held = f }) (sym (put_kept m.held t false h))
    ]

pub empty_more : (lever : Bool) (n : ℕ) (m one two : Model) → (lever ≡ false → m.held ≡ none) → task? n ≡ true → one ≡ after_clear n m → two ≡ after_unhold lever n one → EmptyBelow n m → EmptyBelow (n + 1) two
empty_more lever n m one two free p q r below = subst (EmptyBelow (n + 1)) (sym (r ∙ ap (after_unhold lever n) q ∙ unheld lever n (after_clear n m) free p)) at
  where
    at : EmptyBelow (n + 1) (record { entries = (after_clear n m).entries; held = put m.held n false })
    at u lt =
        let c = count_cleared u n m.entries in
        elim (cases_eq n u) [
          | inl e ↦ let a = eq-eqb n u e in (rw a at c, rw a refl)
          | inr d ↦
              let a = ne_eqb n u d in
              let b = below u (omega arith) in
              ((let k : count_of u (after_clear n m).entries ≡ count_of u m.entries = rw a at c in k ∙ b.0), rw a b.1)
        ]

-- ---- all tasks
nothing_left : (es : List Entry) → all_good? es ≡ true → ((u : ℕ) → u < 128 → count_of u es ≡ 0) → es ≡ []
nothing_left [] g none_of = refl
nothing_left (e ∷ es) g none_of =
    let r = task_range e.task (good_head e es g).0 in
    let c = none_of e.task r.1 in
    let k : count_of e.task (e ∷ es) ≡ suc (count_of e.task es) = rw (eq-eqb e.task e.task refl) refl in
    absurd (omega arith)

pub empty_all : (m : Model) → Sound m → EmptyBelow 128 m → m ≡ empty
empty_all m s below =
    let a = nothing_left m.entries s.0.0 (λ u lt. (below u lt).0) in
    let b : m.held ≡ none = fun_ext unheld_at in
    ap (λ (es : List Entry). record { entries = es; held = m.held }) a ∙ ap (λ (f : ℕ → Bool). record { entries = []; held = f }) b
  where
    unheld_at : (u : ℕ) → m.held u ≡ false
    unheld_at u =
        elim (cases_Bool (m.held u)) [
          | inl h ↦ (below u (task_range u (s.1 u h)).1).1
          | inr h ↦ h
        ]
