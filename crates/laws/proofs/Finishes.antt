-- The end of a start, and the cut of all starts of a task, keep what ties the tasks to the events.
use Rattle.std.proofs.Common.{◌≡◌, ℕ, zero, suc, ◌+◌, ◌<◌, ◌≤◌, Bool, true, false, cond, not, ◌&&◌, eqb, ◌⊎◌, List, [], ◌∷◌, ◌++◌, length, replicate, sym, refl, ap, ◌∙◌, subst, inl, inr, append_assoc, arith}
use Rattle.std.specs.List.{AllByRecursion as All}
use Rattle.std.proofs.lemmas.Bool.{cases_Bool, cond_both, eqb-true, eqb-false, cond-true, cond-false, ne_eqb, not-true}
use Rattle.std.proofs.lemmas.List.{append-nil}
use Rattle.sheet.specs.declared.event.Event.{Event}
use Rattle.sheet.specs.declared.event.Kind.{Kind}
use Rattle.sheet.specs.declared.event.Kind.TheVariants.{Accepted, Ended, Cut}
use Rattle.sheet.specs.Events.{event}
use Rattle.roll.specs.declared.entry.Entry.{Entry}
use Rattle.roll.specs.Tables.{put}
use Rattle.roll.specs.Entries.{of?, count_of, ended, cleared}
use Rattle.roll.proofs.Counts.{count_ended, count_cleared}
use Rattle.rules.specs.State.{Tasks}
use Rattle.rules.specs.Starts.{finished, stripped, cut_events}
use Rattle.laws.specs.Laws.{is_of, one, tally}
use Rattle.laws.proofs.Marks.{marks_of, rest, count_marks, marks_ended, marks_cleared}
use Rattle.laws.proofs.Delays.{Fits, fits_rest}
use Rattle.laws.proofs.Starts.{tasks, drop_t, tally_append, unfinished, order_end, order_cut}
use Rattle.laws.proofs.First.{tasks_of, all_kept}
use Rattle.laws.proofs.Kept.{Kept}

-- ---- the end of a start
tasks_ended : (t : ℕ) (es : List Entry) → tasks_of (ended t es) ≡ drop_t t (tasks_of es)
tasks_ended t [] = refl
tasks_ended t (e ∷ es) = go (of? t e) (tasks_ended t es)
  where
    go : (b : Bool) → tasks_of (ended t es) ≡ drop_t t (tasks_of es) → tasks_of (cond b es (e ∷ ended t es)) ≡ cond b (tasks_of es) (e.task ∷ drop_t t (tasks_of es))
    go true i = refl
    go false i = ap (λ (l : List ℕ). e.task ∷ l) i

all_ended : (P : Entry → Type 0) (t : ℕ) (es : List Entry) → All P es → All P (ended t es)
all_ended P t [] h = tt
all_ended P t (e ∷ es) h = cond_both (of? t e) es (e ∷ ended t es) (All P) (λ _. h.1) (λ _. (h.0, all_ended P t es h.1))

pub kept_finished : (m : ℕ → ℕ) (es : List Event) (s : Tasks) (t : ℕ) (bs : List Bool) → marks_of t s.roll.entries ≡ false ∷ bs → Kept m es s → Kept m (es ++ (event Ended t ∷ [])) (finished s t)
kept_finished m es s t bs h k = record {
  marks = λ u. subst (λ l. Fits l (m u)) (sym (marks_ended t u s.roll.entries)) (fits u (cases_Bool (eqb t u)));
  two = λ u. (let c = count_ended u t s.roll.entries in let n = k.two u in omega arith);
  levels = all_ended (λ (e : Entry). e.level ≡ s.level e.task) t s.roll.entries k.levels;
  above = all_ended (λ (e : Entry). 0 < e.task) t s.roll.entries k.above;
  balance = λ u.
      let c = one_less u (cases_Bool (eqb t u)) in
      let i = tally_append Accepted u es (event Ended t ∷ []) in
      let j = tally_append Ended u es (event Ended t ∷ []) in
      let l = tally_append Cut u es (event Ended t ∷ []) in
      let n = k.balance u in omega arith;
  order = tasks_ended t s.roll.entries ∙ ap (drop_t t) k.order ∙ sym (order_end t es);
  none = k.none;
}
  where
    fits : (u : ℕ) → (eqb t u ≡ true) ⊎ (eqb t u ≡ false) → Fits (cond (eqb t u) (rest (marks_of u s.roll.entries)) (marks_of u s.roll.entries)) (m u)
    fits u (inl y) =
        let w : marks_of u s.roll.entries ≡ false ∷ bs = subst (λ z. marks_of z s.roll.entries ≡ false ∷ bs) (eqb-true t u y) h in
        rw (y, w) (fits_rest bs (m u) (subst (λ l. Fits l (m u)) w (k.marks u)))
    fits u (inr y) = rw y (k.marks u)

    one_less : (u : ℕ) → (eqb t u ≡ true) ⊎ (eqb t u ≡ false) → count_of u s.roll.entries ≡ count_of u (ended t s.roll.entries) + one (eqb t u)
    one_less u (inl y) =
        let a = count_marks t s.roll.entries ∙ ap length h in
        let q = ap (λ z. count_of z s.roll.entries) (eqb-true t u y) in
        let b = count_ended u t s.roll.entries in
        let c : one (eqb t u) ≡ 1 = ap one y in omega arith
    one_less u (inr y) =
        let b = count_ended u t s.roll.entries in
        let c : one (eqb t u) ≡ 0 = ap one y in omega arith

-- ---- all starts of a task are cut, one event each
abbrev drops_t : ℕ → ℕ → List ℕ → List ℕ
drops_t zero t l = l
drops_t (suc n) t l = drops_t n t (drop_t t l)

order_cuts : (n t : ℕ) (es : List Event) → tasks (unfinished (es ++ replicate n (event Cut t))) ≡ drops_t n t (tasks (unfinished es))
order_cuts zero t es = ap (λ (l : List Event). tasks (unfinished l)) (append-nil es)
order_cuts (suc n) t es =
    ap (λ (l : List Event). tasks (unfinished l)) (sym (append_assoc es (event Cut t ∷ []) (replicate n (event Cut t))))
    ∙ order_cuts n t (es ++ (event Cut t ∷ []))
    ∙ ap (drops_t n t) (order_cut t es)

drops_skip : (n t x : ℕ) (l : List ℕ) → eqb x t ≡ false → drops_t n t (x ∷ l) ≡ x ∷ drops_t n t l
drops_skip zero t x l h = refl
drops_skip (suc n) t x l h = ap (drops_t n t) (cond-false (eqb x t) l (x ∷ drop_t t l) h) ∙ drops_skip n t x (drop_t t l) h

drops_clear : (t : ℕ) (es : List Entry) → drops_t (count_of t es) t (tasks_of es) ≡ tasks_of (cleared t es)
drops_clear t [] = refl
drops_clear t (e ∷ es) = go (cases_Bool (of? t e)) (drops_clear t es)
  where
    go : (of? t e ≡ true) ⊎ (of? t e ≡ false) → drops_t (count_of t es) t (tasks_of es) ≡ tasks_of (cleared t es)
        → drops_t (cond (of? t e) (suc (count_of t es)) (count_of t es)) t (e.task ∷ tasks_of es) ≡ tasks_of (cond (not (of? t e)) (e ∷ cleared t es) (cleared t es))
    go (inl y) i = rw y (ap (drops_t (count_of t es) t) (cond-true (eqb e.task t) (tasks_of es) (e.task ∷ drop_t t (tasks_of es)) y) ∙ i)
    go (inr y) i = rw y (drops_skip (count_of t es) t e.task (tasks_of es) y ∙ ap (λ (l : List ℕ). e.task ∷ l) i)

tally_other : (k : Kind) (n t u : ℕ) → is_of k (event Cut t) ≡ false → tally k u (replicate n (event Cut t)) ≡ 0
tally_other k zero t u h = refl
tally_other k (suc n) t u h = let i = tally_other k n t u h in let j : one (is_of k (event Cut t) && eqb t u) ≡ 0 = ap (λ b. one (b && eqb t u)) h in omega arith

pub tally_cuts : (n t u : ℕ) → tally Cut u (replicate n (event Cut t)) ≡ cond (eqb t u) n 0
tally_cuts zero t u = elim (eqb t u) as (λ b. ◌≡◌ {A = ℕ} 0 (cond b 0 0)) [ true ↦ refl | false ↦ refl ]
tally_cuts (suc n) t u = go (eqb t u) (tally_cuts n t u)
  where
    go : (b : Bool) → tally Cut u (replicate n (event Cut t)) ≡ cond b n 0 → one b + tally Cut u (replicate n (event Cut t)) ≡ cond b (suc n) 0
    go true i = omega arith
    go false i = omega arith

pub kept_stripped : (m n : ℕ → ℕ) (es : List Event) (s : Tasks) (t w : ℕ) → ((u : ℕ) → n u ≡ cond (eqb t u) 0 (m u))
    → Kept m es s → Kept n (es ++ cut_events s t) (stripped s t w)
kept_stripped m n es s t w q k = record {
  marks = λ u. fits u (eqb t u) (k.marks u) (marks_cleared t u s.roll.entries) (q u);
  two = λ u. (let c = count_cleared u t s.roll.entries in let d = two_yet u (eqb t u) in omega arith);
  levels = all_kept (λ e. not (of? t e)) (λ (e : Entry). e.level ≡ s.level e.task) (λ (e : Entry). e.level ≡ put s.level t w e.task) s.roll.entries
      (λ e h p. p ∙ sym (cond-false (eqb t e.task) w (s.level e.task) (ne_eqb t e.task (λ z. eqb-false e.task t (not-true (of? t e) h) (sym z))))) k.levels;
  above = all_kept (λ e. not (of? t e)) (λ (e : Entry). 0 < e.task) (λ (e : Entry). 0 < e.task) s.roll.entries (λ e h p. p) k.above;
  balance = λ u.
      let c = count_cleared u t s.roll.entries in
      let i = tally_append Accepted u es (cut_events s t) in
      let i' = tally_other Accepted (count_of t s.roll.entries) t u refl in
      let j = tally_append Ended u es (cut_events s t) in
      let j' = tally_other Ended (count_of t s.roll.entries) t u refl in
      let l = tally_append Cut u es (cut_events s t) in
      let l' = tally_cuts (count_of t s.roll.entries) t u in
      let b = k.balance u in
      let z = all_cut u (cases_Bool (eqb t u)) in omega arith;
  order = sym (drops_clear t s.roll.entries) ∙ ap (drops_t (count_of t s.roll.entries) t) k.order ∙ sym (order_cuts (count_of t s.roll.entries) t es);
  none = cond_both (eqb t 0) false (s.released 0) (λ x. x ≡ false) (λ _. refl) (λ _. k.none);
}
  where
    fits : (u : ℕ) (b : Bool) → Fits (marks_of u s.roll.entries) (m u) → marks_of u (cleared t s.roll.entries) ≡ cond b [] (marks_of u s.roll.entries) → n u ≡ cond b 0 (m u) → Fits (marks_of u (cleared t s.roll.entries)) (n u)
    fits u true g x y = rw (x, y) refl
    fits u false g x y = rw (x, y) g

    two_yet : (u : ℕ) (b : Bool) → cond b 0 (count_of u s.roll.entries) ≤ 2
    two_yet u true = omega arith
    two_yet u false = k.two u

    all_cut : (u : ℕ) → (eqb t u ≡ true) ⊎ (eqb t u ≡ false) → cond (eqb t u) (count_of t s.roll.entries) 0 + cond (eqb t u) 0 (count_of u s.roll.entries) ≡ count_of u s.roll.entries
    all_cut u (inl y) = let e = ap (λ z. count_of z s.roll.entries) (eqb-true t u y) in rw y (let z : count_of t s.roll.entries + 0 ≡ count_of u s.roll.entries = omega arith in z)
    all_cut u (inr y) = rw y (let z : 0 + count_of u s.roll.entries ≡ count_of u s.roll.entries = omega arith in z)
