-- A change of a task's level keeps what ties the tasks to the events.
use Rattle.std.proofs.Common.{◌≡◌, ℕ, ◌+◌, ◌<◌, true, false, cond, eqb, ◌⊎◌, List, [], ◌∷◌, sym, refl, ap, ◌∙◌, subst, ap₂, inl, inr, arith}
use Rattle.std.specs.List.{AllByRecursion as All}
use Rattle.std.proofs.lemmas.Bool.{cases_Bool, cond_both, eqb-true, eqb-false, cond-true, cond-false, eq-eqb, ne_eqb}
use Rattle.sheet.specs.declared.event.Event.{Event}
use Rattle.roll.specs.declared.entry.Entry.{Entry}
use Rattle.roll.specs.Tables.{put}
use Rattle.roll.specs.Entries.{of?, raised, levelled}
use Rattle.roll.proofs.Counts.{count_levelled}
use Rattle.rules.specs.State.{Tasks}
use Rattle.rules.specs.Effects.{levelling}
use Rattle.laws.proofs.Marks.{marks_levelled}
use Rattle.laws.proofs.Delays.{Fits}
use Rattle.laws.proofs.Starts.{fin}
use Rattle.laws.proofs.First.{tasks_of}
use Rattle.laws.proofs.Kept.{Kept}

tasks_levelled : (t l : ℕ) (es : List Entry) → tasks_of (levelled t l es) ≡ tasks_of es
tasks_levelled t l [] = refl
tasks_levelled t l (e ∷ es) = ap₂ (λ (x : ℕ) (xs : List ℕ). x ∷ xs) (elim (of? t e) as (λ b. (cond b (raised l e) e).task ≡ e.task) [ true ↦ refl | false ↦ refl ]) (tasks_levelled t l es)

all_levelled : (P Q : Entry → Type 0) (t l : ℕ) (es : List Entry) → ((e : Entry) → P e → Q (cond (of? t e) (raised l e) e)) → All P es → All Q (levelled t l es)
all_levelled P Q t l [] f h = tt
all_levelled P Q t l (e ∷ es) f h = (f e h.0, all_levelled P Q t l es f h.1)

pub kept_levelling : (m : ℕ → ℕ) (es : List Event) (s : Tasks) (t l : ℕ) → Kept m es s → Kept m es (levelling s t l)
kept_levelling m es s t l k = record {
  marks = λ u. subst (λ x. Fits x (m u)) (sym (marks_levelled t l u s.roll.entries)) (k.marks u);
  two = λ u. (let c = count_levelled u t l s.roll.entries in let n = k.two u in omega arith);
  levels = all_levelled (λ (e : Entry). e.level ≡ s.level e.task) (λ (e : Entry). e.level ≡ put s.level t l e.task) t l s.roll.entries (λ e p. at e p (cases_Bool (of? t e))) k.levels;
  above = all_levelled (λ (e : Entry). 0 < e.task) (λ (e : Entry). 0 < e.task) t l s.roll.entries (λ e p. cond_both (of? t e) (raised l e) e (λ (f : Entry). 0 < f.task) (λ _. p) (λ _. p)) k.above;
  balance = λ u. k.balance u ∙ ap (λ n. fin es u + n) (sym (count_levelled u t l s.roll.entries));
  order = tasks_levelled t l s.roll.entries ∙ k.order;
  none = k.none;
}
  where
    at : (e : Entry) → e.level ≡ s.level e.task → (of? t e ≡ true) ⊎ (of? t e ≡ false) → (cond (of? t e) (raised l e) e).level ≡ put s.level t l (cond (of? t e) (raised l e) e).task
    at e p (inl y) = rw y (sym (cond-true (eqb t e.task) l (s.level e.task) (eq-eqb t e.task (sym (eqb-true e.task t y)))))
    at e p (inr y) = rw y (p ∙ sym (cond-false (eqb t e.task) l (s.level e.task) (ne_eqb t e.task (λ z. eqb-false e.task t y (sym z)))))
