-- The starts that a list of events leaves unfinished, oldest first.
use Rattle.std.proofs.Common.{◌≡◌, ℕ, suc, ◌+◌, ◌-◌, ◌≤◌, Bool, true, false, cond, ◌&&◌, eqb, ◌⊎◌, List, [], ◌∷◌, ◌++◌, map, sym, refl, ap, ◌∙◌, inl, inr, arith}
use mathlib.Core.Path.{fun_ext}
use Rattle.std.proofs.lemmas.Bool.{cases_Bool, eqb-true, eqb-false, cond-true, cond-false, eq-eqb, ne_eqb}
use Rattle.sheet.specs.declared.event.Event.{Event}
use Rattle.sheet.specs.declared.event.Kind.{Kind}
use Rattle.sheet.specs.declared.event.Kind.TheVariants.{Accepted, Ended, Cut}
use Rattle.sheet.specs.Events.{event}
use Rattle.laws.specs.Laws.{is_of, one, tally}

pub record Start : Type 0 where
  pub task : ℕ
  pub stamp : ℕ

abbrev pub less : ℕ → (ℕ → ℕ) → ℕ → ℕ
less a f u = cond (eqb a u) (f u - 1) (f u)

abbrev pub more : ℕ → (ℕ → ℕ) → ℕ → ℕ
more t f u = f u + one (eqb t u)

-- the accepted starts, but the first f t of each task t
abbrev pub opens : (ℕ → ℕ) → ℕ → List Event → List Start
opens f n [] = []
opens f n (e ∷ es) = cond (is_of Accepted e)
    (cond (eqb (f e.task) 0) (record { task = e.task; stamp = n } ∷ opens f (suc n) es) (opens (less e.task f) (suc n) es))
    (opens f (suc n) es)

abbrev pub tasks : List Start → List ℕ
tasks xs = map (λ (x : Start). x.task) xs

abbrev pub drop_t : ℕ → List ℕ → List ℕ
drop_t t [] = []
drop_t t (x ∷ xs) = cond (eqb x t) xs (x ∷ drop_t t xs)

pub tally_append : (k : Kind) (t : ℕ) (xs ys : List Event) → tally k t (xs ++ ys) ≡ tally k t xs + tally k t ys
tally_append k t [] ys = omega arith
tally_append k t (x ∷ xs) ys = let i = tally_append k t xs ys in omega arith

h1 : (a t m : ℕ) (f : ℕ → ℕ) → f t ≤ one (eqb a t) + m → f a ≡ 0 → f t ≤ m
h1 a t m f h z = go (cases_Bool (eqb a t))
  where
    go : (eqb a t ≡ true) ⊎ (eqb a t ≡ false) → f t ≤ m
    go (inl y) = let q = ap f (eqb-true a t y) in omega arith
    go (inr y) = let q : one (eqb a t) ≡ 0 = ap one y in omega arith

h2 : (a t m : ℕ) (f : ℕ → ℕ) → f t ≤ one (eqb a t) + m → less a f t ≤ m
h2 a t m f h = go (eqb a t) h
  where
    go : (b : Bool) → f t ≤ one b + m → cond b (f t - 1) (f t) ≤ m
    go true h = omega arith
    go false h = omega arith

pub opens_accept : (t : ℕ) (f : ℕ → ℕ) (n : ℕ) (es : List Event) → f t ≤ tally Accepted t es → tasks (opens f n (es ++ (event Accepted t ∷ []))) ≡ tasks (opens f n es) ++ (t ∷ [])
opens_accept t f n [] h = ap tasks (cond-true (eqb (f t) 0) (record { task = t; stamp = n } ∷ []) [] (eq-eqb (f t) 0 (omega arith)))
opens_accept t f n (e ∷ es) h = go (is_of Accepted e) (cases_Bool (eqb (f e.task) 0)) h (opens_accept t f (suc n) es) (opens_accept t (less e.task f) (suc n) es)
  where
    one_more : List Event
    one_more = event Accepted t ∷ []

    go : (K : Bool) → (eqb (f e.task) 0 ≡ true) ⊎ (eqb (f e.task) 0 ≡ false) → f t ≤ one (K && eqb e.task t) + tally Accepted t es
        → (f t ≤ tally Accepted t es → tasks (opens f (suc n) (es ++ (event Accepted t ∷ []))) ≡ tasks (opens f (suc n) es) ++ (t ∷ []))
        → (less e.task f t ≤ tally Accepted t es → tasks (opens (less e.task f) (suc n) (es ++ (event Accepted t ∷ []))) ≡ tasks (opens (less e.task f) (suc n) es) ++ (t ∷ []))
        → tasks (cond K (cond (eqb (f e.task) 0) (record { task = e.task; stamp = n } ∷ opens f (suc n) (es ++ (event Accepted t ∷ []))) (opens (less e.task f) (suc n) (es ++ (event Accepted t ∷ [])))) (opens f (suc n) (es ++ (event Accepted t ∷ []))))
        ≡ tasks (cond K (cond (eqb (f e.task) 0) (record { task = e.task; stamp = n } ∷ opens f (suc n) es) (opens (less e.task f) (suc n) es)) (opens f (suc n) es)) ++ (t ∷ [])
    go true (inl z) h i j = rw z (ap (λ (l : List ℕ). e.task ∷ l) (i (h1 e.task t (tally Accepted t es) f h (eqb-true (f e.task) 0 z))))
    go true (inr z) h i j = rw z (j (h2 e.task t (tally Accepted t es) f h))
    go false z h i j = i (omega arith)

pub opens_quiet : (f : ℕ → ℕ) (n : ℕ) (es : List Event) (d : Event) → is_of Accepted d ≡ false → opens f n (es ++ (d ∷ [])) ≡ opens f n es
opens_quiet f n [] d h = cond-false (is_of Accepted d) (cond (eqb (f d.task) 0) (record { task = d.task; stamp = n } ∷ []) []) [] h
opens_quiet f n (e ∷ es) d h =
    rw (opens_quiet f (suc n) es d h, opens_quiet (less e.task f) (suc n) es d h) refl

abbrev pub drop_s : ℕ → List Start → List Start
drop_s t [] = []
drop_s t (x ∷ xs) = cond (eqb x.task t) xs (x ∷ drop_s t xs)

pub tasks_drop : (t : ℕ) (xs : List Start) → tasks (drop_s t xs) ≡ drop_t t (tasks xs)
tasks_drop t [] = refl
tasks_drop t (x ∷ xs) = go (eqb x.task t) (tasks_drop t xs)
  where
    go : (b : Bool) → tasks (drop_s t xs) ≡ drop_t t (tasks xs) → tasks (cond b xs (x ∷ drop_s t xs)) ≡ cond b (tasks xs) (x.task ∷ drop_t t (tasks xs))
    go true i = refl
    go false i = ap (λ (l : List ℕ). x.task ∷ l) i

less_more : (t : ℕ) (f : ℕ → ℕ) → less t (more t f) ≡ f
less_more t f = fun_ext (λ u. elim (eqb t u) as (λ b. cond b (f u + one b - 1) (f u + one b) ≡ f u) [ true ↦ omega arith | false ↦ omega arith ])

less_more_swap : (a t : ℕ) (f : ℕ → ℕ) → (f a ≡ 0 → ⊥) → less a (more t f) ≡ more t (less a f)
less_more_swap a t f h = fun_ext (λ u. go u (cases_Bool (eqb a u)))
  where
    go : (u : ℕ) → (eqb a u ≡ true) ⊎ (eqb a u ≡ false) → less a (more t f) u ≡ more t (less a f) u
    go u (inl y) = let q = ap f (eqb-true a u y) in
        rw y (let z : f u + one (eqb t u) - 1 ≡ f u - 1 + one (eqb t u) = (let k : f u ≡ 0 → ⊥ = λ w. h (q ∙ w) in omega arith) in z)
    go u (inr y) = rw y refl

pub opens_more : (t : ℕ) (f : ℕ → ℕ) (n : ℕ) (es : List Event) → opens (more t f) n es ≡ drop_s t (opens f n es)
opens_more t f n [] = refl
opens_more t f n (e ∷ es) = go (is_of Accepted e) (cases_Bool (eqb (f e.task) 0)) (cases_Bool (eqb t e.task)) (opens_more t f (suc n) es) (opens_more t (less e.task f) (suc n) es)
  where
    go : (K : Bool) → (eqb (f e.task) 0 ≡ true) ⊎ (eqb (f e.task) 0 ≡ false) → (eqb t e.task ≡ true) ⊎ (eqb t e.task ≡ false)
        → opens (more t f) (suc n) es ≡ drop_s t (opens f (suc n) es)
        → opens (more t (less e.task f)) (suc n) es ≡ drop_s t (opens (less e.task f) (suc n) es)
        → cond K (cond (eqb (more t f e.task) 0) (record { task = e.task; stamp = n } ∷ opens (more t f) (suc n) es) (opens (less e.task (more t f)) (suc n) es)) (opens (more t f) (suc n) es)
        ≡ drop_s t (cond K (cond (eqb (f e.task) 0) (record { task = e.task; stamp = n } ∷ opens f (suc n) es) (opens (less e.task f) (suc n) es)) (opens f (suc n) es))
    go false z y i j = i
    go true (inl z) (inl y) i j =
        let q = eqb-true t e.task y in
        let p : one (eqb t e.task) ≡ 1 = ap one y in
        let w : eqb (more t f e.task) 0 ≡ false = ne_eqb (more t f e.task) 0 (λ k. omega arith) in
        cond-false (eqb (more t f e.task) 0) (record { task = e.task; stamp = n } ∷ opens (more t f) (suc n) es) (opens (less e.task (more t f)) (suc n) es) w
        ∙ ap (λ a. opens (less a (more t f)) (suc n) es) (sym q)
        ∙ ap (λ (g : ℕ → ℕ). opens g (suc n) es) (less_more t f)
        ∙ sym (ap (drop_s t) (cond-true (eqb (f e.task) 0) (record { task = e.task; stamp = n } ∷ opens f (suc n) es) (opens (less e.task f) (suc n) es) z)
        ∙ cond-true (eqb e.task t) (opens f (suc n) es) (record { task = e.task; stamp = n } ∷ drop_s t (opens f (suc n) es)) (eq-eqb e.task t (sym q)))
    go true (inl z) (inr y) i j =
        let p : one (eqb t e.task) ≡ 0 = ap one y in
        let fz = eqb-true (f e.task) 0 z in
        let w : eqb (more t f e.task) 0 ≡ true = eq-eqb (more t f e.task) 0 (omega arith) in
        cond-true (eqb (more t f e.task) 0) (record { task = e.task; stamp = n } ∷ opens (more t f) (suc n) es) (opens (less e.task (more t f)) (suc n) es) w
        ∙ ap (λ (l : List Start). record { task = e.task; stamp = n } ∷ l) i
        ∙ sym (ap (drop_s t) (cond-true (eqb (f e.task) 0) (record { task = e.task; stamp = n } ∷ opens f (suc n) es) (opens (less e.task f) (suc n) es) z)
        ∙ cond-false (eqb e.task t) (opens f (suc n) es) (record { task = e.task; stamp = n } ∷ drop_s t (opens f (suc n) es)) (ne_eqb e.task t (λ k. eqb-false t e.task y (sym k))))
    go true (inr z) y i j =
        let fz = eqb-false (f e.task) 0 z in
        let w : eqb (more t f e.task) 0 ≡ false = ne_eqb (more t f e.task) 0 (λ k. fz (omega arith)) in
        cond-false (eqb (more t f e.task) 0) (record { task = e.task; stamp = n } ∷ opens (more t f) (suc n) es) (opens (less e.task (more t f)) (suc n) es) w
        ∙ ap (λ (g : ℕ → ℕ). opens g (suc n) es) (less_more_swap e.task t f fz)
        ∙ j
        ∙ sym (ap (drop_s t) (cond-false (eqb (f e.task) 0) (record { task = e.task; stamp = n } ∷ opens f (suc n) es) (opens (less e.task f) (suc n) es) z))

-- the unfinished starts themselves
abbrev pub fin : List Event → ℕ → ℕ
fin es t = tally Ended t es + tally Cut t es

abbrev pub unfinished : List Event → List Start
unfinished es = opens (fin es) 0 es

fin_push : (es : List Event) (d : Event) → fin (es ++ (d ∷ [])) ≡ (λ t. fin es t + (one (is_of Ended d && eqb d.task t) + one (is_of Cut d && eqb d.task t)))
fin_push es d = fun_ext (λ t. let a = tally_append Ended t es (d ∷ []) in let b = tally_append Cut t es (d ∷ []) in omega arith)

fin_quiet : (es : List Event) (d : Event) → is_of Ended d ≡ false → is_of Cut d ≡ false → fin (es ++ (d ∷ [])) ≡ fin es
fin_quiet es d a b = fin_push es d ∙ fun_ext (λ t. (let p : one (is_of Ended d && eqb d.task t) ≡ 0 = ap (λ k. one (k && eqb d.task t)) a in let q : one (is_of Cut d && eqb d.task t) ≡ 0 = ap (λ k. one (k && eqb d.task t)) b in let z : fin es t + (one (is_of Ended d && eqb d.task t) + one (is_of Cut d && eqb d.task t)) ≡ fin es t = omega arith in z))

pub order_accept : (t : ℕ) (es : List Event) → fin es t ≤ tally Accepted t es → tasks (unfinished (es ++ (event Accepted t ∷ []))) ≡ tasks (unfinished es) ++ (t ∷ [])
order_accept t es h = ap (λ (f : ℕ → ℕ). tasks (opens f 0 (es ++ (event Accepted t ∷ [])))) (fin_quiet es (event Accepted t) refl refl) ∙ opens_accept t (fin es) 0 es h

pub order_quiet : (es : List Event) (d : Event) → is_of Accepted d ≡ false → is_of Ended d ≡ false → is_of Cut d ≡ false → unfinished (es ++ (d ∷ [])) ≡ unfinished es
order_quiet es d a b c = ap (λ (f : ℕ → ℕ). opens f 0 (es ++ (d ∷ []))) (fin_quiet es d b c) ∙ opens_quiet (fin es) 0 es d a

order_more : (t : ℕ) (es : List Event) (d : Event) → is_of Accepted d ≡ false → fin (es ++ (d ∷ [])) ≡ more t (fin es) → tasks (unfinished (es ++ (d ∷ []))) ≡ drop_t t (tasks (unfinished es))
order_more t es d a f = ap (λ (f : ℕ → ℕ). tasks (opens f 0 (es ++ (d ∷ [])))) f ∙ ap tasks (opens_quiet (more t (fin es)) 0 es d a ∙ opens_more t (fin es) 0 es) ∙ tasks_drop t (unfinished es)

pub order_end : (t : ℕ) (es : List Event) → tasks (unfinished (es ++ (event Ended t ∷ []))) ≡ drop_t t (tasks (unfinished es))
order_end t es = order_more t es (event Ended t) refl (fin_push es (event Ended t) ∙ fun_ext (λ u. (let z : fin es u + (one (eqb t u) + 0) ≡ fin es u + one (eqb t u) = omega arith in z)))

pub order_cut : (t : ℕ) (es : List Event) → tasks (unfinished (es ++ (event Cut t ∷ []))) ≡ drop_t t (tasks (unfinished es))
order_cut t es = order_more t es (event Cut t) refl (fin_push es (event Cut t) ∙ fun_ext (λ u. (let z : fin es u + (0 + one (eqb t u)) ≡ fin es u + one (eqb t u) = omega arith in z)))
