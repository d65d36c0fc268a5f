-- What a write to one slot does to the list.
use Rattle.std.specs.Prelude.{◌≡◌, ℕ, zero, suc, ◌+◌, ◌<◌, ◌≤◌, Bool, true, false, cond, ◌≢◌, List, [], ◌∷◌, ◌++◌, length, get_or, set, replicate, ◌==◌, slice_index_or, slice_set, refl}
use Rattle.std.proofs.Common.{sym, ap, subst, ◌∙◌, inl, inr, arith, add-one}
use Rattle.std.proofs.lemmas.Bool.Decides.{nat_tests}
use Rattle.std.proofs.lemmas.Bool.{cases_eq, cases_lt, eq-eqb, ne_eqb}
use Rattle.std.proofs.lemmas.List.{set-get_or, append-nil, get_or-set_same, get_or-set_other, get_or_past, map-append, length-map}
use Rattle.roll.specs.Entries.{of?, count_of, ended, marking, marked, levelled, relevel, raised}
use Rattle.roll.specs.declared.entry.Entry.{Entry}
use Rattle.stamped.specs.declared.slot.Start.{Start}
use Rattle.stamped.specs.declared.slot.Slot.{Slot}
use Rattle.stamped.specs.declared.slot.Slot.TheVariants.{Empty, One, Two}
use Rattle.stamped.specs.Slots.{entry_of, of_start, of_slot, of_slots, upto, listed, size, good?, ended_slot, marked_slot, marked_start, pushed_slot, levelled_slot, levelled_start}
use Rattle.roll.proofs.Counts.{ended_none}
use Rattle.stamped.specs.Families.{Good, good_parts, good_from, slots_else, slots_point, upto_same, upto_point}
use Rattle.stamped.specs.Counts.{count_less, count_slot_other, older, past, count_listed, Orderly, count_size}

-- ---- lists
ended_split : (t : ℕ) (us vs : List Entry) (e : Entry) → count_of t us ≡ 0 → e.task ≡ t → ended t (us ++ e ∷ vs) ≡ us ++ vs
ended_split t [] vs e z p = let q = eq-eqb e.task t p in rw q
ended_split t (u ∷ us) vs e z p =
    elim (of? t u) as (λ v. cond v (suc (count_of t us)) (count_of t us) ≡ 0 → cond v (us ++ e ∷ vs) (u ∷ ended t (us ++ e ∷ vs)) ≡ u ∷ (us ++ vs)) [
      | true ↦ λ q. absurd (omega arith)
      | false ↦ λ q. ap (λ l. u ∷ l) (ended_split t us vs e q p)
    ] z

marking_split : (m : Bool) (t : ℕ) (us vs : List Entry) (e : Entry) → count_of t us ≡ 0 → e.task ≡ t → marking m t (us ++ e ∷ vs) ≡ us ++ marked m e ∷ vs
marking_split m t [] vs e z p = let q = eq-eqb e.task t p in rw q
marking_split m t (u ∷ us) vs e z p =
    elim (of? t u) as (λ v. cond v (suc (count_of t us)) (count_of t us) ≡ 0 → cond v (marked m u ∷ (us ++ e ∷ vs)) (u ∷ marking m t (us ++ e ∷ vs)) ≡ u ∷ (us ++ marked m e ∷ vs)) [
      | true ↦ λ q. absurd (omega arith)
      | false ↦ λ q. ap (λ l. u ∷ l) (marking_split m t us vs e q p)
    ] z

pub marking_none : (m : Bool) (t : ℕ) (es : List Entry) → count_of t es ≡ 0 → marking m t es ≡ es
marking_none m t [] p = refl
marking_none m t (e ∷ es) p =
    elim (of? t e) as (λ v. cond v (suc (count_of t es)) (count_of t es) ≡ 0 → cond v (marked m e ∷ es) (e ∷ marking m t es) ≡ e ∷ es) [
      | true ↦ λ q. absurd (omega arith)
      | false ↦ λ q. ap (λ l. e ∷ l) (marking_none m t es q)
    ] p

-- ---- of_slot
pub start_here : (t : ℕ) (a : Start) → of_start a.stamp t a ≡ entry_of t a ∷ []
start_here t a = rw (eq-eqb a.stamp a.stamp refl)

pub start_else : (k t : ℕ) (a : Start) → a.stamp ≢ k → of_start k t a ≡ []
start_else k t a n = rw (ne_eqb a.stamp k n)

-- ---- a write at the oldest start of t
pub record Front (t : ℕ) (x y : Slot) (a : Start) (n : ℕ) : Type 0 where
  pub here : of_slot a.stamp t x ≡ entry_of t a ∷ []
  pub else : (k : ℕ) → k ≢ a.stamp → of_slot k t y ≡ of_slot k t x
  pub below : a.stamp < n
  pub oldest : older a.stamp x ≡ 0

pub record Split (t : ℕ) (xs : List Slot) (y : Slot) (a : Start) (n : ℕ) : Type 0 where
  pub us : List Entry
  pub vs : List Entry
  pub none : count_of t us ≡ 0
  pub old : listed xs n ≡ us ++ entry_of t a ∷ vs
  pub new : listed (slice_set xs t y) n ≡ us ++ (of_slot a.stamp t y ++ vs)

pub split : (t : ℕ) (xs : List Slot) (y : Slot) (a : Start) (n : ℕ) → t < length xs → Orderly xs n → Front t (slice_index_or xs t Empty) y a n → Split t xs y a n
split t xs y a n lt s f =
    let k = a.stamp in
    let ap1 = s.apart k in
    let l1 = ap length f.here in
    let p = slots_point k t xs y lt (omega arith) in
    let w = upto_point (λ j. of_slots j 0 xs) (λ j. of_slots j 0 (slice_set xs t y)) k n f.below (λ j _ m. sym (slots_else j t xs y lt (f.else j m))) in
    record {
      us = listed xs k;
      vs = w.0;
      none = count_listed t k xs ∙ f.oldest;
      old = w.1 ∙ rw (p.0, f.here);
      new = w.2 ∙ rw p.1;
    }

-- ---- the table stays as it should
pub good_set : (n m t : ℕ) (xs : List Slot) (y : Slot) → n ≤ m → t < length xs → ((u : ℕ) → good? n u (slice_index_or xs u Empty) ≡ true) → Good m t y → (u : ℕ) → good? m u (slice_index_or (slice_set xs t y) u Empty) ≡ true
good_set n m t xs y le lt g h u =
    elim (cases_eq u t) [
      | inl e ↦ let q = get_or-set_same xs t y Empty lt in rw (e, q) (good_from m t y h)
      | inr d ↦ let d' : u ≢ t = d in rw (get_or-set_other xs t u y Empty d') (good_from m u (slice_index_or xs u Empty) (weaker u (slice_index_or xs u Empty) (good_parts n u (slice_index_or xs u Empty) (g u))))
    ]
  where
    weaker : (u : ℕ) (x : Slot) → Good n u x → Good m u x
    weaker u Empty g = tt
    weaker u (One a) g = (g.0, omega arith, g.2)
    weaker u (Two a b) g = (g.0, g.1, omega arith, g.3, g.4)

apart_set : (t : ℕ) (xs : List Slot) (y : Slot) (s : ℕ) → t < length xs → ((k : ℕ) → length (of_slots k 0 xs) ≤ 1) → length (of_slots s 0 xs) ≤ length (of_slot s t (slice_index_or xs t Empty)) → ((k : ℕ) → k ≢ s → of_slot k t y ≡ of_slot k t (slice_index_or xs t Empty)) → length (of_slot s t y) ≤ 1 → (k : ℕ) → length (of_slots k 0 (slice_set xs t y)) ≤ 1
apart_set t xs y s lt a le e o k =
    elim (cases_eq k s) [
      | inl q ↦ rw q (rw (slots_point s t xs y lt le).1 o)
      | inr d ↦ rw (slots_else k t xs y lt (e k d)) (a k)
    ]

pub orderly_front : (t : ℕ) (xs : List Slot) (y : Slot) (a : Start) (n : ℕ) → t < length xs → Orderly xs n → Front t (slice_index_or xs t Empty) y a n → length (of_slot a.stamp t y) ≤ 1 → Good n t y → Orderly (slice_set xs t y) n
orderly_front t xs y a n lt s f o g =
    let l1 = ap length f.here in
    let l2 = s.apart a.stamp in
    record {
      apart = apart_set t xs y a.stamp lt s.apart (omega arith) f.else o;
      good = good_set n n t xs y (omega arith) lt s.good g;
    }

-- ---- the two writes at the oldest start
pub past_self : (k : ℕ) (a : Start) → k ≤ a.stamp → past k a ≡ 0
past_self k a le = grind (arith, nat_tests)

-- ---- a new table
pub good_new : (n m t u : ℕ) → good? n u (slice_index_or (replicate m Empty) t Empty) ≡ true
good_new n zero t u = refl
good_new n (suc m) zero u = refl
good_new n (suc m) (suc t) u = good_new n m t u

-- ---- the oldest start of one or two
front_one : (n t : ℕ) (a : Start) (y : Slot) → Good n t (One a) → ((k : ℕ) → k ≢ a.stamp → of_slot k t y ≡ []) → Front t (One a) y a n
front_one n t a y g h =
    record {
      here = start_here t a;
      else = λ k d. h k d ∙ sym (start_else k t a (λ e. d (sym e)));
      below = g.1;
      oldest = past_self a.stamp a (omega arith);
    }

front_two : (n t : ℕ) (a b : Start) (y : Slot) → Good n t (Two a b) → ((k : ℕ) → k ≢ a.stamp → of_slot k t y ≡ of_start k t b) → Front t (Two a b) y a n
front_two n t a b y g h =
    let ne : b.stamp ≢ a.stamp = omega (arith, g.1) in
    let p1 = past_self a.stamp a (omega arith) in
    let p2 = past_self a.stamp b (omega arith) in
    record {
      here = rw (start_here t a, start_else a.stamp t b ne);
      else = λ k d. h k d ∙ sym (ap (λ l. l ++ of_start k t b) (start_else k t a (λ e. d (sym e))));
      below = omega arith;
      oldest = omega arith;
    }

pub good_at : (xs : List Slot) (n t : ℕ) (x : Slot) → Orderly xs n → slice_index_or xs t Empty ≡ x → Good n t x
good_at xs n t x s e = good_parts n t x (ap (good? n t) (sym e) ∙ s.good t)

-- the oldest of t away
pub ended_write : (n t : ℕ) (xs : List Slot) → t < length xs → Orderly xs n → (listed (slice_set xs t (ended_slot (slice_index_or xs t Empty))) n ≡ ended t (listed xs n)) × Orderly (slice_set xs t (ended_slot (slice_index_or xs t Empty))) n
ended_write n t xs lt s = go (slice_index_or xs t Empty) refl
  where
    go : (x : Slot) → slice_index_or xs t Empty ≡ x → (listed (slice_set xs t (ended_slot x)) n ≡ ended t (listed xs n)) × Orderly (slice_set xs t (ended_slot x)) n
    go Empty e =
        let q : set xs t Empty ≡ xs = ap (set xs t) (sym e) ∙ set-get_or xs t Empty in
        let z : count_of t (listed xs n) ≡ 0 = count_size xs n t s ∙ ap size e in
        (ap (λ l. listed l n) q ∙ sym (ended_none t (listed xs n) z), subst (λ (l : List Slot). Orderly l n) (sym q) s)
    go (One a) e =
        let g = good_at xs n t (One a) s e in
        let f = subst (λ (x : Slot). Front t x Empty a n) (sym e) (front_one n t a Empty g (λ k d. refl)) in
        let w = split t xs Empty a n lt s f in
        (w.new ∙ sym (ap (ended t) w.old ∙ ended_split t w.us w.vs (entry_of t a) w.none refl), orderly_front t xs Empty a n lt s f (omega arith) tt)
    go (Two a b) e =
        let g = good_at xs n t (Two a b) s e in
        let ne : b.stamp ≢ a.stamp = omega (arith, g.1) in
        let h = start_else a.stamp t b ne in
        let hl = ap length h in
        let f = subst (λ (x : Slot). Front t x (One b) a n) (sym e) (front_two n t a b (One b) g (λ k d. refl)) in
        let w = split t xs (One b) a n lt s f in
        (w.new ∙ ap (λ l. w.us ++ (l ++ w.vs)) h ∙ sym (ap (ended t) w.old ∙ ended_split t w.us w.vs (entry_of t a) w.none refl), orderly_front t xs (One b) a n lt s f (omega arith) (g.0, g.2, g.4))

-- a mark on the oldest of t
pub marked_write : (m : Bool) (n t : ℕ) (xs : List Slot) → t < length xs → Orderly xs n → (listed (slice_set xs t (marked_slot m (slice_index_or xs t Empty))) n ≡ marking m t (listed xs n)) × Orderly (slice_set xs t (marked_slot m (slice_index_or xs t Empty))) n
marked_write m n t xs lt s = go (slice_index_or xs t Empty) refl
  where
    go : (x : Slot) → slice_index_or xs t Empty ≡ x → (listed (slice_set xs t (marked_slot m x)) n ≡ marking m t (listed xs n)) × Orderly (slice_set xs t (marked_slot m x)) n
    go Empty e =
        let q : set xs t Empty ≡ xs = ap (set xs t) (sym e) ∙ set-get_or xs t Empty in
        let z : count_of t (listed xs n) ≡ 0 = count_size xs n t s ∙ ap size e in
        (ap (λ l. listed l n) q ∙ sym (marking_none m t (listed xs n) z), subst (λ (l : List Slot). Orderly l n) (sym q) s)
    go (One a) e =
        let g = good_at xs n t (One a) s e in
        let a' = marked_start m a in
        let h = start_here t a' in
        let hl = ap length h in
        let f = subst (λ (x : Slot). Front t x (One a') a n) (sym e) (front_one n t a (One a') g (λ k d. start_else k t a' (λ q. d (sym q)))) in
        let w = split t xs (One a') a n lt s f in
        (w.new ∙ ap (λ l. w.us ++ (l ++ w.vs)) h ∙ sym (ap (marking m t) w.old ∙ marking_split m t w.us w.vs (entry_of t a) w.none refl), orderly_front t xs (One a') a n lt s f (omega arith) g)
    go (Two a b) e =
        let g = good_at xs n t (Two a b) s e in
        let a' = marked_start m a in
        let ne : b.stamp ≢ a.stamp = omega (arith, g.1) in
        let h : of_slot a.stamp t (Two a' b) ≡ entry_of t a' ∷ [] = rw (start_here t a', start_else a.stamp t b ne) in
        let hl = ap length h in
        let f = subst (λ (x : Slot). Front t x (Two a' b) a n) (sym e) (front_two n t a b (Two a' b) g (λ k d. ap (λ l. l ++ of_start k t b) (start_else k t a' (λ q. d (sym q))))) in
        let w = split t xs (Two a' b) a n lt s f in
        (w.new ∙ ap (λ l. w.us ++ (l ++ w.vs)) h ∙ sym (ap (marking m t) w.old ∙ marking_split m t w.us w.vs (entry_of t a) w.none refl), orderly_front t xs (Two a' b) a n lt s f (omega arith) g)

-- ---- one more
pub slots_empty : (k t : ℕ) (xs : List Slot) → ((i u : ℕ) → t + i ≡ u → of_slot k u (slice_index_or xs i Empty) ≡ []) → of_slots k t xs ≡ []
slots_empty k t [] h = refl
slots_empty k t (x ∷ xs) h = rw (h 0 t (omega arith), slots_empty k (suc t) xs (λ i u e. h (suc i) u (omega arith)))

slot_none : (k n t : ℕ) (x : Slot) → Good n t x → n ≤ k → of_slot k t x ≡ []
slot_none k n t Empty g le = refl
slot_none k n t (One a) g le = start_else k t a (omega arith)
slot_none k n t (Two a b) g le = let p = start_else k t a (omega arith) in let q = start_else k t b (omega arith) in rw (p, q)

pub slots_late : (k n : ℕ) (xs : List Slot) → Orderly xs n → n ≤ k → of_slots k 0 xs ≡ []
slots_late k n xs s le = slots_empty k 0 xs (λ i u e. let q : i ≡ u = omega arith in slot_none k n u (slice_index_or xs i Empty) (good_parts n u (slice_index_or xs i Empty) (ap (λ v. good? n v (slice_index_or xs i Empty)) (sym q) ∙ s.good i)) le)

pub added_write : (n t : ℕ) (x : Start) (xs : List Slot) → t < length xs → 0 < t → x.stamp ≡ n → x.level < 5 → Orderly xs n → size (slice_index_or xs t Empty) < 2 → (listed (slice_set xs t (pushed_slot x (slice_index_or xs t Empty))) (suc n) ≡ listed xs n ++ entry_of t x ∷ []) × Orderly (slice_set xs t (pushed_slot x (slice_index_or xs t Empty))) (suc n)
added_write n t x xs lt ps e lv s z =
    let old = get_or xs t Empty in
    let y = pushed_slot x old in
    let g = good_at xs n t old s refl in
    let here : of_slot n t y ≡ entry_of t x ∷ [] = pushed_here old g z in
    let el : (k : ℕ) → k ≢ n → of_slot k t y ≡ of_slot k t old = λ k d. pushed_else k d old z in
    let b = slots_late n n xs s (omega arith) in
    let bl = ap length b in
    let p = slots_point n t xs y lt (omega arith) in
    let hl = ap length here in
    let same = upto_same (λ k. of_slots k 0 (slice_set xs t y)) (λ k. of_slots k 0 xs) n (λ j l. slots_else j t xs y lt (el j (omega arith))) in
    (rw (p.1, here, same), record { apart = apart_set t xs y n lt s.apart (omega arith) el (omega arith); good = good_set n (suc n) t xs y (omega arith) lt s.good (pushed_good old g z) })
  where
    here1 : of_start n t x ≡ entry_of t x ∷ []
    here1 = rw (eq-eqb x.stamp n e)

    else1 : (k : ℕ) → k ≢ n → of_start k t x ≡ []
    else1 k d = start_else k t x (omega arith)

    pushed_here : (o : Slot) → Good n t o → size o < 2 → of_slot n t (pushed_slot x o) ≡ entry_of t x ∷ []
    pushed_here Empty g z = here1
    pushed_here (One a) g z = let h = start_else n t a (omega arith) in rw h here1
    pushed_here (Two a b) g z = absurd (omega arith)

    pushed_else : (k : ℕ) → k ≢ n → (o : Slot) → size o < 2 → of_slot k t (pushed_slot x o) ≡ of_slot k t o
    pushed_else k d Empty z = else1 k d
    pushed_else k d (One a) z = rw (else1 k d, append-nil)
    pushed_else k d (Two a b) z = absurd (omega arith)

    pushed_good : (o : Slot) → Good n t o → size o < 2 → Good (suc n) t (pushed_slot x o)
    pushed_good Empty g z = (ps, omega arith, lv)
    pushed_good (One a) g z = (ps, omega arith, omega arith, g.2, lv)
    pushed_good (Two a b) g z = absurd (omega arith)

-- ---- a level
levelled_none : (t l : ℕ) (es : List Entry) → count_of t es ≡ 0 → levelled t l es ≡ es
levelled_none t l [] p = refl
levelled_none t l (e ∷ es) p =
    elim (of? t e) as (λ v. cond v (suc (count_of t es)) (count_of t es) ≡ 0 → cond v (raised l e) e ∷ levelled t l es ≡ e ∷ es) [
      | true ↦ λ q. absurd (omega arith)
      | false ↦ λ q. ap (λ r. e ∷ r) (levelled_none t l es q)
    ] p

start_levelled : (k t l : ℕ) (a : Start) → of_start k t (levelled_start l a) ≡ levelled t l (of_start k t a)
start_levelled k t l a =
    elim (a.stamp == k) as (λ v. cond v (entry_of t (levelled_start l a) ∷ []) [] ≡ levelled t l (cond v (entry_of t a ∷ []) [])) [
      | true ↦ rw (eq-eqb t t refl)
      | false ↦ refl
    ]

slot_levelled : (k t l : ℕ) (x : Slot) → of_slot k t (levelled_slot l x) ≡ levelled t l (of_slot k t x)
slot_levelled k t l Empty = refl
slot_levelled k t l (One a) = start_levelled k t l a
slot_levelled k t l (Two a b) = rw (start_levelled k t l a, start_levelled k t l b) (sym (map-append (relevel t l) (of_start k t a) (of_start k t b)))

slots_levelled : (k t i u l : ℕ) (xs : List Slot) → t + i ≡ u → of_slots k t (slice_set xs i (levelled_slot l (slice_index_or xs i Empty))) ≡ levelled u l (of_slots k t xs)
slots_levelled k t i u l [] e = refl
slots_levelled k t zero u l (x ∷ xs) e =
    let q : t ≡ u = omega arith in
    let h = slot_levelled k u l x in
    let r = levelled_none u l (of_slots k (suc t) xs) (count_less k (suc t) u xs (omega arith)) in
    ap (λ v. of_slot k v (levelled_slot l x) ++ of_slots k (suc t) xs) q ∙ ap (λ m. m ++ of_slots k (suc t) xs) h ∙ ap (λ m. levelled u l (of_slot k u x) ++ m) (sym r) ∙ sym (map-append (relevel u l) (of_slot k u x) (of_slots k (suc t) xs)) ∙ ap (λ v. levelled u l (of_slot k v x ++ of_slots k (suc t) xs)) (sym q)
slots_levelled k t (suc i) u l (x ∷ xs) e =
    let h = levelled_none u l (of_slot k t x) (count_slot_other k t u x (omega arith)) in
    let r = slots_levelled k (suc t) i u l xs (omega arith) in
    ap (λ m. of_slot k t x ++ m) r ∙ ap (λ m. m ++ levelled u l (of_slots k (suc t) xs)) (sym h) ∙ sym (map-append (relevel u l) (of_slot k t x) (of_slots k (suc t) xs))

upto_levelled : (t l k : ℕ) (F G : ℕ → List Entry) → ((j : ℕ) → G j ≡ levelled t l (F j)) → upto G k ≡ levelled t l (upto F k)
upto_levelled t l zero F G h = refl
upto_levelled t l (suc k) F G h = rw (h k, upto_levelled t l k F G h) (sym (map-append (relevel t l) (upto F k) (F k)))

levelled_good : (n t l : ℕ) (x : Slot) → l < 5 → Good n t x → Good n t (levelled_slot l x)
levelled_good n t l Empty lt g = tt
levelled_good n t l (One a) lt g = (g.0, g.1, lt)
levelled_good n t l (Two a b) lt g = (g.0, g.1, g.2, lt, lt)

pub levelled_write : (n t l : ℕ) (xs : List Slot) → t < length xs → l < 5 → Orderly xs n → (listed (slice_set xs t (levelled_slot l (slice_index_or xs t Empty))) n ≡ levelled t l (listed xs n)) × Orderly (slice_set xs t (levelled_slot l (slice_index_or xs t Empty))) n
levelled_write n t l xs lt lv s =
    let y = levelled_slot l (slice_index_or xs t Empty) in
    let b : (k : ℕ) → of_slots k 0 (slice_set xs t y) ≡ levelled t l (of_slots k 0 xs) = λ k. slots_levelled k 0 t t l xs (omega arith) in (
      upto_levelled t l n (λ k. of_slots k 0 xs) (λ k. of_slots k 0 (slice_set xs t y)) b,
      record { apart = λ k. rw (b k, length-map) (s.apart k); good = good_set n n t xs y (omega arith) lt s.good (levelled_good n t l (slice_index_or xs t Empty) lv (good_at xs n t (slice_index_or xs t Empty) s refl)) },
    )

-- ---- a task that has no slot has no entry
pub beyond : (n t : ℕ) (xs : List Slot) → length xs ≤ t → Orderly xs n → count_of t (listed xs n) ≡ 0
beyond n t xs le s = count_size xs n t s ∙ ap size (get_or_past xs t Empty le)

pub within : (n t : ℕ) (xs : List Slot) → Orderly xs n → 0 < count_of t (listed xs n) → t < length xs
within n t xs s p =
    elim (cases_lt t (length xs)) [
      | inl lt ↦ lt
      | inr ge ↦ let z = beyond n t xs ge s in absurd (omega arith)
    ]

pub push_write : (n t : ℕ) (x : Start) (xs : List Slot) → t < length xs → 0 < t → x.stamp ≡ n → x.level < 5 → Orderly xs n → count_of t (listed xs n) < 2 → (listed (slice_set xs t (pushed_slot x (slice_index_or xs t Empty))) (n + 1) ≡ listed xs n ++ entry_of t x ∷ []) × Orderly (slice_set xs t (pushed_slot x (slice_index_or xs t Empty))) (n + 1)
push_write n t x xs lt ps e lv s z =
    let k = count_size xs n t s in
    rw (add-one n) (added_write n t x xs lt ps e lv s (omega arith))
