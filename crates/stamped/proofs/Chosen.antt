-- The least by level and stamp of the live slots is the first of the list.
use Rattle.std.proofs.Common.{◌≡◌, ℕ, zero, suc, ◌+◌, ◌<◌, ◌≤◌, Bool, true, false, cond, not, eqb, ltb, ◌≢◌, List, [], ◌∷◌, ◌++◌, length, get_or, Some, None, filter, Option, sym, refl, ap, ◌∙◌, subst, inl, inr, arith, below_more}
use Rattle.std.specs.List.{AllByRecursion as All}
use Rattle.std.proofs.lemmas.Bool.{cases_eq, cases_lt, eq-eqb, ne_eqb, and_parts, lt-ltb, le-ltb, eqb-true, not-true}
use Rattle.std.proofs.lemmas.List.{append-nil, get_or_past}
use Rattle.std.proofs.lemmas.List.Elements.{filter-append}
use Rattle.std.proofs.ByRecursion.{All-append}
use Rattle.roll.specs.Tables.{none}
use Rattle.roll.specs.Entries.{of?, count_of, cleared}
use Rattle.roll.specs.Firsts.{fronts, startable, better, best, task_of, first_of}
use Rattle.roll.specs.declared.entry.Entry.{Entry}
use Rattle.roll.proofs.Bests.{better_assoc}
use Rattle.stamped.specs.declared.slot.Start.{Start}
use Rattle.stamped.specs.declared.slot.Slot.{Slot}
use Rattle.stamped.specs.declared.slot.Slot.TheVariants.{Empty, One, Two}
use Rattle.stamped.specs.declared.candidate.Candidate.{Candidate}
use Rattle.stamped.specs.Slots.{entry_of, of_start, of_slot, of_slots, listed, live_start, live_of}
use Rattle.stamped.specs.Candidates.{rank, preferred, owner_of, Least}
use Rattle.stamped.specs.Families.{Good, slots_point}
use Rattle.stamped.specs.Counts.{older, past, count_listed, Orderly}
use Rattle.stamped.specs.Writes.{start_here, start_else, good_at, past_self}

-- ---- a scan
pub least_skip : (xs : List Slot) (i : ℕ) (b : Option Candidate) → Least xs i b → live_of (get_or xs i Empty) ≡ None → Least xs (i + 1) b
least_skip xs i None h e = below_more _ _ h e
least_skip xs i (Some p) h e = (h.0, below_more _ _ h.1 (λ a q. let z : ◌≡◌ {A = ℕ} 0 1 = cc in absurd (omega arith)), omega arith)

rank_same : (a b : Start) → Some a ≡ Some b → rank a ≡ rank b
rank_same a b e = let q : a ≡ b = cc in ap rank q

pub least_more : (xs : List Slot) (i : ℕ) (b : Option Candidate) (p : Candidate) → Least xs i b → p.task ≡ i → live_of (get_or xs i Empty) ≡ Some p.start → Least xs (i + 1) (preferred b p)
least_more xs i None p h t e = (
  ap (λ u. live_of (get_or xs u Empty)) t ∙ e,
  below_more (λ u. (a : Start) → live_of (get_or xs u Empty) ≡ Some a → rank p.start ≤ rank a) i (λ u lt a q. let r = h u lt in let z : ◌≡◌ {A = ℕ} 0 1 = cc in absurd (omega arith)) (λ a q. let r = rank_same p.start a (sym e ∙ q) in omega arith),
  omega arith,
)
least_more xs i (Some o) p h t e =
    elim (cases_lt (rank p.start) (rank o.start)) [
      | inl lt ↦
          let k = lt-ltb (rank p.start) (rank o.start) lt in
          rw k (
            ap (λ u. live_of (get_or xs u Empty)) t ∙ e,
            below_more (λ u. (a : Start) → live_of (get_or xs u Empty) ≡ Some a → rank p.start ≤ rank a) i (λ u l a q. let r = h.1 u l a q in omega arith) (λ a q. let r = rank_same p.start a (sym e ∙ q) in omega arith),
            omega arith,
          )
      | inr ge ↦
          let k = le-ltb (rank p.start) (rank o.start) ge in
          rw k (
            h.0,
            below_more (λ u. (a : Start) → live_of (get_or xs u Empty) ≡ Some a → rank o.start ≤ rank a) i h.1 (λ a q. let r = rank_same p.start a (sym e ∙ q) in omega arith),
            omega (arith, h.2),
          )
    ]

-- ---- the first of a list, from its end
fronts_push : (es : List Entry) (e : Entry) → fronts (es ++ e ∷ []) ≡ fronts es ++ filter (λ x. eqb (count_of x.task es) 0) (e ∷ [])
fronts_push [] e = refl
fronts_push (x ∷ es) e =
    let h = fronts_push es e in
    let K = filter (λ y. eqb (count_of y.task es) 0) (e ∷ []) in
    ap (λ l. x ∷ cleared x.task l) h ∙ ap (λ l. x ∷ l) (filter-append (λ y. not (of? x.task y)) (fronts es) K ∙ ap (λ l. cleared x.task (fronts es) ++ l) tail)
  where
    tail : cleared x.task (cond (eqb (count_of e.task es) 0) (e ∷ []) []) ≡ cond (eqb (cond (of? e.task x) (suc (count_of e.task es)) (count_of e.task es)) 0) (e ∷ []) []
    tail =
        elim (cases_eq x.task e.task) [
          | inl q ↦
              let a = eq-eqb x.task e.task q in
              let b = eq-eqb e.task x.task (sym q) in
              let n = ne_eqb (suc (count_of e.task es)) 0 (omega arith) in
              elim (eqb (count_of e.task es) 0) as (λ v. cleared x.task (cond v (e ∷ []) []) ≡ cond (eqb (cond (of? e.task x) (suc (count_of e.task es)) (count_of e.task es)) 0) (e ∷ []) []) [
                | true ↦ rw (a, b, n)
                | false ↦ rw (a, n)
              ]
          | inr q ↦
              let a = ne_eqb x.task e.task q in
              let b = ne_eqb e.task x.task (λ r. q (sym r)) in
              rw a (elim (eqb (count_of e.task es) 0) as (λ v. cleared x.task (cond v (e ∷ []) []) ≡ cond v (e ∷ []) []) [
                | true ↦ rw b
                | false ↦ refl
              ])
        ]

fronts_append : (es fs : List Entry) → length fs ≤ 1 → fronts (es ++ fs) ≡ fronts es ++ filter (λ x. eqb (count_of x.task es) 0) fs
fronts_append es [] le = rw append-nil (sym (append-nil (fronts es)))
fronts_append es (e ∷ []) le = fronts_push es e
fronts_append es (e ∷ f ∷ fs) le = absurd (omega arith)

best_append : (xs ys : List Entry) → best (xs ++ ys) ≡ better (best xs) (best ys)
best_append [] ys = refl
best_append (x ∷ xs) ys = ap (better (Some x)) (best_append xs ys) ∙ sym (better_assoc (Some x) (best xs) (best ys))

-- ---- a run of candidates
abbrev run : (ℕ → Option Entry) → ℕ → Option Entry
run V zero = None
run V (suc k) = better (run V k) (V k)

abbrev Floor : ℕ → Option Entry → Type 0
Floor l None = Unit {0}
Floor l (Some e) = l ≤ e.level

floor_better : (l : ℕ) (o q : Option Entry) → Floor l o → Floor l q → Floor l (better o q)
floor_better l None q p r = r
floor_better l (Some e) None p r = p
floor_better l (Some e) (Some f) p r =
    elim (ltb f.level e.level) as (λ v. Floor l (cond v (Some f) (Some e))) [
      | true ↦ r
      | false ↦ p
    ]

run_floor : (V : ℕ → Option Entry) (l k : ℕ) → ((j : ℕ) → j < k → Floor l (V j)) → Floor l (run V k)
run_floor V l zero h = tt
run_floor V l (suc k) h = floor_better l (run V k) (V k) (run_floor V l k (λ j lt. h j (omega arith))) (h k (omega arith))

run_none : (V : ℕ → Option Entry) (k : ℕ) → ((j : ℕ) → j < k → V j ≡ None) → run V k ≡ None
run_none V zero h = refl
run_none V (suc k) h = rw (run_none V k (λ j lt. h j (omega arith)), h k (omega arith))

takes : (o : Option Entry) (e : Entry) → Floor (suc e.level) o → better o (Some e) ≡ Some e
takes None e p = refl
takes (Some f) e p = rw (lt-ltb e.level f.level (omega arith))

keeps : (o : Option Entry) (e : Entry) → Floor e.level o → better (Some e) o ≡ Some e
keeps None e p = refl
keeps (Some f) e p = rw (le-ltb f.level e.level p)

run_best : (V : ℕ → Option Entry) (s k : ℕ) (e : Entry) → s < k → V s ≡ Some e → ((j : ℕ) → j < s → Floor (suc e.level) (V j)) → ((j : ℕ) → j < k → Floor e.level (V j)) → run V k ≡ Some e
run_best V s zero e lt v a b = absurd (omega arith)
run_best V s (suc k) e lt v a b =
    elim (cases_eq k s) [
      | inl q ↦ rw (q, v) (takes (run V s) e (run_floor V (suc e.level) s a))
      | inr d ↦ rw (run_best V s k e (omega arith) v a (λ j l. b j (omega arith))) (keeps (V k) e (b k (omega arith)))
    ]

-- ---- the candidates of a table
abbrev cands : List Slot → ℕ → List Entry
cands xs k = filter (startable none) (filter (λ x. eqb (count_of x.task (listed xs k)) 0) (of_slots k 0 xs))

best_run : (xs : List Slot) (k : ℕ) → ((j : ℕ) → length (of_slots j 0 xs) ≤ 1) → best (filter (startable none) (fronts (listed xs k))) ≡ run (λ j. best (cands xs j)) k
best_run xs zero a = refl
best_run xs (suc k) a =
    let K = filter (λ x. eqb (count_of x.task (listed xs k)) 0) (of_slots k 0 xs) in
    ap (λ l. best (filter (startable none) l)) (fronts_append (listed xs k) (of_slots k 0 xs) (a k))
    ∙ ap best (filter-append (startable none) (fronts (listed xs k)) K)
    ∙ best_append (filter (startable none) (fronts (listed xs k))) (filter (startable none) K)
    ∙ ap (λ o. better o (best (filter (startable none) K))) (best_run xs k a)

all_filter : (p : Entry → Bool) (Q : Entry → Type 0) (es : List Entry) → All (λ e. p e ≡ true → Q e) es → All Q (filter p es)
all_filter p Q [] h = tt
all_filter p Q (e ∷ es) h =
    elim (p e) as (λ v. (v ≡ true → Q e) → All Q (cond v (e ∷ filter p es) (filter p es))) [
      | true ↦ λ f. (f refl, all_filter p Q es h.1)
      | false ↦ λ _. all_filter p Q es h.1
    ] h.0

slots_all : (P : Entry → Type 0) (k t : ℕ) (xs : List Slot) → ((i u : ℕ) → t + i ≡ u → All P (of_slot k u (get_or xs i Empty))) → All P (of_slots k t xs)
slots_all P k t [] h = tt
slots_all P k t (x ∷ xs) h = All-append P (of_slot k t x) (of_slots k (suc t) xs) (h 0 t (omega arith)) (slots_all P k (suc t) xs (λ i u e. h (suc i) u (omega arith)))

all_start : (P : Entry → Type 0) (k t : ℕ) (a : Start) → (a.stamp ≡ k → P (entry_of t a)) → All P (of_start k t a)
all_start P k t a h =
    elim (cases_eq a.stamp k) [
      | inl e ↦ rw (eq-eqb a.stamp k e) (h e, tt)
      | inr d ↦ rw (ne_eqb a.stamp k d) tt
    ]

start_is_live : (a : Start) → a.asleep ≡ false → live_start a ≡ Some a
start_is_live a e = rw e

awake_start : (t : ℕ) (a : Start) → startable none (entry_of t a) ≡ true → live_start a ≡ Some a
awake_start t a e = start_is_live a (not-true a.asleep (and_parts (not a.asleep) true e).0)

-- what a slot has to offer at k is its live start
slot_cands : (n k u : ℕ) (x : Slot) (C : ℕ → ℕ) (Q : Entry → Type 0) → Good n u x → C u ≡ older k x → ((a : Start) → live_of x ≡ Some a → a.stamp ≡ k → Q (entry_of u a)) → All (λ e. eqb (C e.task) 0 ≡ true → startable none e ≡ true → Q e) (of_slot k u x)
slot_cands n k u Empty C Q g c h = tt
slot_cands n k u (One a) C Q g c h = all_start (λ e. eqb (C e.task) 0 ≡ true → startable none e ≡ true → Q e) k u a (λ e _ q. h a (awake_start u a q) e)
slot_cands n k u (Two a b) C Q g c h =
    All-append (λ e. eqb (C e.task) 0 ≡ true → startable none e ≡ true → Q e) (of_start k u a) (of_start k u b)
    (all_start (λ e. eqb (C e.task) 0 ≡ true → startable none e ≡ true → Q e) k u a (λ e _ q. h a (awake_start u a q) e))
    (all_start (λ e. eqb (C e.task) 0 ≡ true → startable none e ≡ true → Q e) k u b (λ e z q. let w = eqb-true (C u) 0 z in let v : a.stamp < k = omega (arith, g.1) in let l = lt-ltb a.stamp k v in let y : past k a ≡ 1 = rw l in absurd (omega arith)))

all_cands : (xs : List Slot) (n k : ℕ) (Q : Entry → Type 0) → Orderly xs n → ((u : ℕ) (a : Start) → live_of (get_or xs u Empty) ≡ Some a → a.stamp ≡ k → Q (entry_of u a)) → All Q (cands xs k)
all_cands xs n k Q s h =
    all_filter (startable none) Q (filter (λ x. eqb (count_of x.task (listed xs k)) 0) (of_slots k 0 xs))
    (all_filter (λ x. eqb (count_of x.task (listed xs k)) 0) (λ e. startable none e ≡ true → Q e) (of_slots k 0 xs)
    (slots_all (λ e. eqb (count_of e.task (listed xs k)) 0 ≡ true → startable none e ≡ true → Q e) k 0 xs
    (λ i u e. let q : u ≡ i = omega arith in subst (λ (v : ℕ). All (λ e. eqb (count_of e.task (listed xs k)) 0 ≡ true → startable none e ≡ true → Q e) (of_slot k v (get_or xs i Empty))) (sym q) (slot_cands n k i (get_or xs i Empty) (λ t. count_of t (listed xs k)) Q (good_at xs n i (get_or xs i Empty) s refl) (count_listed i k xs) (h i)))))

floor_all : (l : ℕ) (es : List Entry) → All (λ e. l ≤ e.level) es → Floor l (best es)
floor_all l [] a = tt
floor_all l (e ∷ es) a = floor_better l (Some e) (best es) a.0 (floor_all l es a.1)

none_all : (es : List Entry) → All (λ e. ⊥) es → best es ≡ None
none_all [] a = refl
none_all (e ∷ es) a = absurd a.0

-- ---- the chosen one stands at its stamp
live_here : (n t : ℕ) (x : Slot) (a : Start) → Good n t x → live_of x ≡ Some a → (of_slot a.stamp t x ≡ entry_of t a ∷ []) × (older a.stamp x ≡ 0) × (a.asleep ≡ false) × (a.stamp < n)
live_here n t Empty a g e = let z : ◌≡◌ {A = ℕ} 0 1 = cc in absurd (omega arith)
live_here n t (One b) a g e = go b.asleep refl e
  where
    go : (v : Bool) → b.asleep ≡ v → cond v None (Some b) ≡ Some a → (of_start a.stamp t b ≡ entry_of t a ∷ []) × (past a.stamp b ≡ 0) × (a.asleep ≡ false) × (a.stamp < n)
    go true w q = let z : ◌≡◌ {A = ℕ} 0 1 = cc in absurd (omega arith)
    go false w q =
        let r : b ≡ a = cc in
        subst (λ (y : Start). (of_start y.stamp t b ≡ entry_of t y ∷ []) × (past y.stamp b ≡ 0) × (y.asleep ≡ false) × (y.stamp < n)) r (start_here t b, past_self b.stamp b (omega arith), w, g.1)
live_here n t (Two b c) a g e = go b.asleep refl e
  where
    go : (v : Bool) → b.asleep ≡ v → cond v None (Some b) ≡ Some a → (of_start a.stamp t b ++ of_start a.stamp t c ≡ entry_of t a ∷ []) × (past a.stamp b + past a.stamp c ≡ 0) × (a.asleep ≡ false) × (a.stamp < n)
    go true w q = let z : ◌≡◌ {A = ℕ} 0 1 = cc in absurd (omega arith)
    go false w q =
        let r : b ≡ a = cc in
        let ne : c.stamp ≢ b.stamp = omega (arith, g.1) in
        let p1 = past_self b.stamp b (omega arith) in
        let p2 = past_self b.stamp c (omega arith) in
        subst (λ (y : Start). (of_start y.stamp t b ++ of_start y.stamp t c ≡ entry_of t y ∷ []) × (past y.stamp b + past y.stamp c ≡ 0) × (y.asleep ≡ false) × (y.stamp < n)) r (rw (start_here t b, start_else b.stamp t c ne), omega arith, w, omega arith)

cand_here : (xs : List Slot) (n t : ℕ) (a : Start) → Orderly xs n → t < length xs → live_of (get_or xs t Empty) ≡ Some a → cands xs a.stamp ≡ entry_of t a ∷ []
cand_here xs n t a s lt e =
    let l = live_here n t (get_or xs t Empty) a (good_at xs n t (get_or xs t Empty) s refl) e in
    let h1 = ap length l.0 in
    let h2 = s.apart a.stamp in
    let b = (slots_point a.stamp t xs Empty lt (omega arith)).0 ∙ l.0 in
    let c : eqb (count_of t (listed xs a.stamp)) 0 ≡ true = eq-eqb (count_of t (listed xs a.stamp)) 0 (count_listed t a.stamp xs ∙ l.1) in
    let w = l.2 in
    rw (b, c, w)

pub chosen_first : (xs : List Slot) (n : ℕ) (b : Option Candidate) → length xs ≡ 128 → n ≤ 65536 → Orderly xs n → Least xs 128 b → owner_of b ≡ first_of none (listed xs n)
chosen_first xs n None len le s h =
    sym (ap task_of (best_run xs n s.apart ∙ run_none (λ j. best (cands xs j)) n (λ j _. none_all (cands xs j) (all_cands xs n j (λ e. ⊥) s (λ u a q _. let r = idle u in let z : ◌≡◌ {A = ℕ} 0 1 = cc in absurd (omega arith))))))
  where
    idle : (u : ℕ) → live_of (get_or xs u Empty) ≡ None
    idle u =
        elim (cases_lt u 128) [
          | inl lt ↦ h u lt
          | inr ge ↦ ap live_of (get_or_past xs u Empty (omega arith))
        ]
chosen_first xs n (Some p) len le s h =
    let a = p.start in
    let t = p.task in
    let e = entry_of t a in
    let l = live_here n t (get_or xs t Empty) a (good_at xs n t (get_or xs t Empty) s refl) h.0 in
    sym (ap task_of (best_run xs n s.apart ∙ run_best (λ j. best (cands xs j)) a.stamp n e l.3 (ap best (cand_here xs n t a s (omega (arith, h.2)) h.0))
    (λ j lt. floor_all (suc a.level) (cands xs j) (all_cands xs n j (λ e. suc a.level ≤ e.level) s (λ u c q z. let r = least u c q in omega arith)))
    (λ j lt. floor_all a.level (cands xs j) (all_cands xs n j (λ e. a.level ≤ e.level) s (λ u c q z. let r = least u c q in omega (arith, l.3))))))
  where
    least : (u : ℕ) (c : Start) → live_of (get_or xs u Empty) ≡ Some c → rank p.start ≤ rank c
    least u c q =
        elim (cases_lt u 128) [
          | inl lt ↦ h.1 u lt c q
          | inr ge ↦ let r = ap live_of (get_or_past xs u Empty (omega arith)) in let z : ◌≡◌ {A = ℕ} 0 1 = cc in absurd (omega arith)
        ]
