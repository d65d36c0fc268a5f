-- What ties the tasks to the events told and to the delays that stand, and what keeps it: an event that finishes
-- and accepts nothing, a change beside the roll, an accepted start, a start put to sleep or roused.
use Rattle.std.proofs.Common.{◌≡◌, ℕ, ◌+◌, ◌<◌, ◌≤◌, Bool, true, false, cond, ◌&&◌, eqb, ◌⊎◌, List, [], ◌∷◌, ◌++◌, sym, refl, ap, ◌∙◌, subst, inl, inr, arith}
use Rattle.std.specs.List.{AllByRecursion as All}
use Rattle.std.proofs.lemmas.Bool.{cases_Bool, cond_both, eqb-true}
use Rattle.std.proofs.lemmas.List.{append-nil}
use Rattle.std.proofs.ByRecursion.{All-push}
use Rattle.sheet.specs.declared.event.Event.{Event}
use Rattle.sheet.specs.declared.event.Kind.TheVariants.{Accepted, Ended, Cut}
use Rattle.sheet.specs.Events.{event}
use Rattle.roll.specs.declared.entry.Entry.{Entry}
use Rattle.roll.specs.Entries.{of?, count_of, awake, marked, marking}
use Rattle.roll.proofs.Counts.{count_push, count_marking}
use Rattle.rules.specs.State.{Tasks}
use Rattle.rules.specs.Starts.{rolled, accepted, slept}
use Rattle.laws.specs.Laws.{is_of, one, tally}
use Rattle.laws.proofs.Marks.{marks_of, head_set, marks_append, marks_marking}
use Rattle.laws.proofs.Delays.{Fits, fits_push, fits_sleep, fits_wake}
use Rattle.laws.proofs.Starts.{tasks, tally_append, fin, unfinished, order_accept, order_quiet}
use Rattle.laws.proofs.First.{tasks_of}

-- m t is the number of delays of t, es all events told; `order` says that the entries are the unfinished starts, oldest first
pub record Kept (m : ℕ → ℕ) (es : List Event) (s : Tasks) : Type 0 where
  pub marks : (t : ℕ) → Fits (marks_of t s.roll.entries) (m t)
  pub two : (t : ℕ) → count_of t s.roll.entries ≤ 2
  pub levels : All (λ (e : Entry). e.level ≡ s.level e.task) s.roll.entries
  pub above : All (λ (e : Entry). 0 < e.task) s.roll.entries
  pub balance : (t : ℕ) → tally Accepted t es ≡ fin es t + count_of t s.roll.entries
  pub order : tasks_of s.roll.entries ≡ tasks (unfinished es)
  pub none : s.released 0 ≡ false

pub kept_delays : (m n : ℕ → ℕ) (es : List Event) (s : Tasks) → ((t : ℕ) → m t ≡ n t) → Kept m es s → Kept n es s
kept_delays m n es s q k = record { marks = λ t. subst (Fits (marks_of t s.roll.entries)) (q t) (k.marks t); two = k.two; levels = k.levels; above = k.above; balance = k.balance; order = k.order; none = k.none }

pub kept_same : (m : ℕ → ℕ) (es : List Event) (s : Tasks) → Kept m es s → Kept m (es ++ []) s
kept_same m es s k = subst (λ l. Kept m l s) (sym (append-nil es)) k

-- an event that is none of accepted, ended and cut
pub kept_told : (m : ℕ → ℕ) (es : List Event) (s : Tasks) (d : Event) → is_of Accepted d ≡ false → is_of Ended d ≡ false → is_of Cut d ≡ false → Kept m es s → Kept m (es ++ (d ∷ [])) s
kept_told m es s d a b c k = record {
  marks = k.marks;
  two = k.two;
  levels = k.levels;
  above = k.above;
  none = k.none;
  balance = λ t.
      let i = tally_append Accepted t es (d ∷ []) in let i' : one (is_of Accepted d && eqb d.task t) ≡ 0 = ap (λ z. one (z && eqb d.task t)) a in
      let j = tally_append Ended t es (d ∷ []) in let j' : one (is_of Ended d && eqb d.task t) ≡ 0 = ap (λ z. one (z && eqb d.task t)) b in
      let l = tally_append Cut t es (d ∷ []) in let l' : one (is_of Cut d && eqb d.task t) ≡ 0 = ap (λ z. one (z && eqb d.task t)) c in
      let n = k.balance t in omega arith;
  order = k.order ∙ sym (ap tasks (order_quiet es d a b c));
}

-- other released tasks, factors and holds
pub kept_beside : (m : ℕ → ℕ) (es : List Event) (s : Tasks) (released : ℕ → Bool) (factors : ℕ → ℕ → Bool) (held : ℕ → Bool) → released 0 ≡ false → Kept m es s
    → Kept m es (record { released = released; level = s.level; factors = factors; roll = record { entries = s.roll.entries; held = held } })
kept_beside m es s r f h z k = record { marks = k.marks; two = k.two; levels = k.levels; above = k.above; balance = k.balance; order = k.order; none = z }

-- ---- a start is accepted
tasks_append : (xs ys : List Entry) → tasks_of (xs ++ ys) ≡ tasks_of xs ++ tasks_of ys
tasks_append [] ys = refl
tasks_append (x ∷ xs) ys = ap (λ (l : List ℕ). x.task ∷ l) (tasks_append xs ys)

module _ (m : ℕ → ℕ) (es : List Event) (s : Tasks) (t : ℕ) where
  push_fits : (u : ℕ) (b : Bool) → Fits (marks_of u s.roll.entries) (m u) → Fits (marks_of u s.roll.entries ++ cond b (false ∷ []) []) (m u)
  push_fits u true g = fits_push (marks_of u s.roll.entries) (m u) g
  push_fits u false g = subst (λ l. Fits l (m u)) (sym (append-nil (marks_of u s.roll.entries))) g

  pub kept_accepted : count_of t s.roll.entries < 2 → 0 < t → Kept m es s → Kept m (es ++ (event Accepted t ∷ [])) (accepted s t)
  kept_accepted room pos k = record {
    marks = λ u. subst (λ l. Fits l (m u)) (sym (marks_append u s.roll.entries (new ∷ []))) (push_fits u (eqb t u) (k.marks u));
    two = λ u. subst (λ n. n ≤ 2) (sym (count_push u s.roll.entries new)) (two_yet u (cases_Bool (eqb t u)));
    levels = All-push (λ (e : Entry). e.level ≡ s.level e.task) s.roll.entries new k.levels refl;
    above = All-push (λ (e : Entry). 0 < e.task) s.roll.entries new k.above pos;
    balance = λ u.
        let c = count_push u s.roll.entries (awake t (s.level t)) in
        let i = tally_append Accepted u es (event Accepted t ∷ []) in
        let j = tally_append Ended u es (event Accepted t ∷ []) in
        let l = tally_append Cut u es (event Accepted t ∷ []) in
        let n = k.balance u in omega arith;
    order = tasks_append s.roll.entries (new ∷ []) ∙ ap (λ (l : List ℕ). l ++ (t ∷ [])) k.order ∙ sym (order_accept t es (let n = k.balance t in omega arith));
    none = k.none;
  }
    where
      new : Entry
      new = awake t (s.level t)

      two_yet : (u : ℕ) → (eqb t u ≡ true) ⊎ (eqb t u ≡ false) → count_of u s.roll.entries + one (eqb t u) ≤ 2
      two_yet u (inl y) = let q = ap (λ z. count_of z s.roll.entries) (eqb-true t u y) in let o : one (eqb t u) ≡ 1 = ap one y in omega arith
      two_yet u (inr y) = let q = k.two u in let o : one (eqb t u) ≡ 0 = ap one y in omega arith

-- ---- the mark of a task's oldest entry is set
tasks_marking : (b : Bool) (t : ℕ) (es : List Entry) → tasks_of (marking b t es) ≡ tasks_of es
tasks_marking b t [] = refl
tasks_marking b t (e ∷ es) = go (of? t e) (tasks_marking b t es)
  where
    go : (c : Bool) → tasks_of (marking b t es) ≡ tasks_of es → tasks_of (cond c (marked b e ∷ es) (e ∷ marking b t es)) ≡ e.task ∷ tasks_of es
    go true i = refl
    go false i = ap (λ (l : List ℕ). e.task ∷ l) i

all_marking : (P : Entry → Type 0) → ((b : Bool) (e : Entry) → P e → P (marked b e)) → (b : Bool) (t : ℕ) (es : List Entry) → All P es → All P (marking b t es)
all_marking P f b t [] h = tt
all_marking P f b t (e ∷ es) h = cond_both (of? t e) (marked b e ∷ es) (e ∷ marking b t es) (All P) (λ _. (f b e h.0, h.1)) (λ _. (h.0, all_marking P f b t es h.1))

kept_marking : (m n : ℕ → ℕ) (es : List Event) (s : Tasks) (b : Bool) (t : ℕ) → ((u : ℕ) → Fits (marks_of u (marking b t s.roll.entries)) (n u)) → Kept m es s → Kept n es (rolled s (marking b t s.roll.entries))
kept_marking m n es s b t g k = record {
  marks = g;
  two = λ u. subst (λ n. n ≤ 2) (sym (count_marking b u t s.roll.entries)) (k.two u);
  levels = all_marking (λ (e : Entry). e.level ≡ s.level e.task) (λ _ _ h. h) b t s.roll.entries k.levels;
  above = all_marking (λ (e : Entry). 0 < e.task) (λ _ _ h. h) b t s.roll.entries k.above;
  balance = λ u. k.balance u ∙ ap (λ n. fin es u + n) (sym (count_marking b u t s.roll.entries));
  order = tasks_marking b t s.roll.entries ∙ k.order;
  none = k.none;
}

pub kept_roused : (m : ℕ → ℕ) (es : List Event) (s : Tasks) (t : ℕ) → Kept (λ u. m u + one (eqb t u)) es s → Kept m es (rolled s (marking false t s.roll.entries))
kept_roused m es s t k = kept_marking (λ u. m u + one (eqb t u)) m es s false t (λ u. subst (λ l. Fits l (m u)) (sym (marks_marking false t u s.roll.entries)) (go u (eqb t u) (k.marks u))) k
  where
    go : (u : ℕ) (b : Bool) → Fits (marks_of u s.roll.entries) (m u + one b) → Fits (cond b (head_set false (marks_of u s.roll.entries)) (marks_of u s.roll.entries)) (m u)
    go u true g = fits_wake (marks_of u s.roll.entries) (m u) g
    go u false g = subst (Fits (marks_of u s.roll.entries)) (let z : m u + 0 ≡ m u = omega arith in z) g

pub kept_slept : (m : ℕ → ℕ) (es : List Event) (s : Tasks) (t : ℕ) (bs : List Bool) → marks_of t s.roll.entries ≡ false ∷ bs → Kept m es s → Kept (λ u. m u + one (eqb t u)) es (slept s t)
kept_slept m es s t bs h k = kept_marking m (λ u. m u + one (eqb t u)) es s true t (λ u. subst (λ l. Fits l (m u + one (eqb t u))) (sym (marks_marking true t u s.roll.entries)) (go u (cases_Bool (eqb t u)))) k
  where
    go : (u : ℕ) → (eqb t u ≡ true) ⊎ (eqb t u ≡ false) → Fits (cond (eqb t u) (head_set true (marks_of u s.roll.entries)) (marks_of u s.roll.entries)) (m u + one (eqb t u))
    go u (inl y) =
        let w : marks_of u s.roll.entries ≡ false ∷ bs = subst (λ z. marks_of z s.roll.entries ≡ false ∷ bs) (eqb-true t u y) h in
        let g : Fits (true ∷ bs) (m u + 1) = fits_sleep bs (m u) (subst (λ l. Fits l (m u)) w (k.marks u)) in
        rw (y, w) g
    go u (inr y) = rw y (subst (Fits (marks_of u s.roll.entries)) (let z : m u ≡ m u + 0 = omega arith in z) (k.marks u))
