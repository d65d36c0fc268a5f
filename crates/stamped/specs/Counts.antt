-- How many entries of a task there are below a stamp.
use Rattle.std.specs.Prelude.{◌≡◌, ℕ, zero, suc, ◌+◌, ◌<◌, ◌≤◌, true, false, cond, ◌≢◌, List, [], ◌∷◌, ◌++◌, length, ◌==◌, nat_lt, slice_index_or, refl}
use Rattle.std.proofs.Common.{sym, ap, ◌∙◌, arith}
use Rattle.std.proofs.lemmas.Bool.Decides.{nat_tests}
use Rattle.std.proofs.lemmas.Bool.{eq-eqb, ne_eqb, and_parts, and_from, lt-ltb}
use Rattle.roll.specs.Ranges.{task?}
use Rattle.roll.specs.Entries.{count_of, good?, all_good?, SoundList}
use Rattle.roll.specs.declared.entry.Entry.{Entry}
use Rattle.stamped.specs.declared.slot.Start.{Start}
use Rattle.stamped.specs.declared.slot.Slot.{Slot}
use Rattle.stamped.specs.declared.slot.Slot.TheVariants.{Empty, One, Two}
use Rattle.stamped.specs.Slots.{entry_of, of_start, of_slot, of_slots, listed, size, good? as kept?}
use Rattle.stamped.specs.Families.{Good, good_parts}

pub count_append : (t : ℕ) (xs ys : List Entry) → count_of t (xs ++ ys) ≡ count_of t xs + count_of t ys
count_append t [] ys = omega arith
count_append t (x ∷ xs) ys = let h = count_append t xs ys in grind (arith, nat_tests)

-- what is older than k
abbrev pub past : ℕ → Start → ℕ
past k a = cond (nat_lt a.stamp k) 1 0

abbrev pub older : ℕ → Slot → ℕ
older k Empty = 0
older k (One a) = past k a
older k (Two a b) = past k a + past k b

count_start : (k t : ℕ) (a : Start) → count_of t (of_start k t a) + past k a ≡ past (suc k) a
count_start k t a = let e = eq-eqb t t refl in grind (arith, nat_tests)

count_slot : (k t : ℕ) (x : Slot) → count_of t (of_slot k t x) + older k x ≡ older (suc k) x
count_slot k t Empty = refl
count_slot k t (One a) = count_start k t a
count_slot k t (Two a b) = let p = count_start k t a in let q = count_start k t b in let r = count_append t (of_start k t a) (of_start k t b) in omega arith

count_start_other : (k t u : ℕ) (a : Start) → t ≢ u → count_of u (of_start k t a) ≡ 0
count_start_other k t u a n = let e = ne_eqb t u n in grind (arith, nat_tests)

pub count_slot_other : (k t u : ℕ) (x : Slot) → t ≢ u → count_of u (of_slot k t x) ≡ 0
count_slot_other k t u Empty n = refl
count_slot_other k t u (One a) n = count_start_other k t u a n
count_slot_other k t u (Two a b) n = let p = count_start_other k t u a n in let q = count_start_other k t u b n in let r = count_append u (of_start k t a) (of_start k t b) in omega arith

pub count_less : (k t u : ℕ) (xs : List Slot) → u < t → count_of u (of_slots k t xs) ≡ 0
count_less k t u [] lt = refl
count_less k t u (x ∷ xs) lt =
    let p = count_slot_other k t u x (omega arith) in
    let q = count_less k (suc t) u xs (omega arith) in
    let r = count_append u (of_slot k t x) (of_slots k (suc t) xs) in
    omega arith

pub count_slots : (k t i u : ℕ) (xs : List Slot) → t + i ≡ u → count_of u (of_slots k t xs) ≡ count_of u (of_slot k u (slice_index_or xs i Empty))
count_slots k t i u [] e = refl
count_slots k t zero u (x ∷ xs) e =
    let q : t ≡ u = omega arith in
    let l = count_less k (suc t) u xs (omega arith) in
    let r = count_append u (of_slot k t x) (of_slots k (suc t) xs) in
    let s : count_of u (of_slot k t x) ≡ count_of u (of_slot k u x) = ap (λ v. count_of u (of_slot k v x)) q in
    omega arith
count_slots k t (suc i) u (x ∷ xs) e =
    let p = count_slot_other k t u x (omega arith) in
    let q = count_slots k (suc t) i u xs (omega arith) in
    let r = count_append u (of_slot k t x) (of_slots k (suc t) xs) in
    omega arith

older_none : (x : Slot) → older 0 x ≡ 0
older_none Empty = refl
older_none (One a) = grind (arith, nat_tests)
older_none (Two a b) = grind (arith, nat_tests)

pub count_listed : (t k : ℕ) (xs : List Slot) → count_of t (listed xs k) ≡ older k (slice_index_or xs t Empty)
count_listed t zero xs = sym (older_none (slice_index_or xs t Empty))
count_listed t (suc k) xs =
    let h = count_listed t k xs in
    let a = count_append t (listed xs k) (of_slots k 0 xs) in
    let b = count_slots k 0 t t xs (omega arith) in
    let c = count_slot k t (slice_index_or xs t Empty) in
    omega arith

older_all : (n t : ℕ) (x : Slot) → Good n t x → older n x ≡ size x
older_all n t Empty g = refl
older_all n t (One a) g = grind (arith, nat_tests)
older_all n t (Two a b) g = let h : a.stamp < n = omega arith in grind (arith, nat_tests)

size_le : (x : Slot) → size x ≤ 2
size_le Empty = omega arith
size_le (One a) = omega arith
size_le (Two a b) = omega arith

-- ---- what is kept in the table
pub record Orderly (xs : List Slot) (n : ℕ) : Type 0 where
  pub apart : (k : ℕ) → length (of_slots k 0 xs) ≤ 1
  pub good : (t : ℕ) → kept? n t (slice_index_or xs t Empty) ≡ true

pub count_size : (xs : List Slot) (n t : ℕ) → Orderly xs n → count_of t (listed xs n) ≡ size (slice_index_or xs t Empty)
count_size xs n t s = count_listed t n xs ∙ older_all n t (slice_index_or xs t Empty) (good_parts n t (slice_index_or xs t Empty) (s.good t))

-- ---- the meaning is sound
good_append : (xs ys : List Entry) → all_good? xs ≡ true → all_good? ys ≡ true → all_good? (xs ++ ys) ≡ true
good_append [] ys p q = q
good_append (x ∷ xs) ys p q = let r = and_parts (good? x) (all_good? xs) p in and_from (good? x) (all_good? (xs ++ ys)) r.0 (good_append xs ys r.1 q)

good_start : (k t : ℕ) (a : Start) → 0 < t → t < 128 → a.level < 5 → all_good? (of_start k t a) ≡ true
good_start k t a p q r =
    elim (a.stamp == k) as (λ v. all_good? (cond v (entry_of t a ∷ []) []) ≡ true) [
      | true ↦ and_from (good? (entry_of t a)) true (and_from (task? t) (nat_lt a.level 5) (and_from (nat_lt 0 t) (nat_lt t 128) (lt-ltb 0 t p) (lt-ltb t 128 q)) (lt-ltb a.level 5 r)) refl
      | false ↦ refl
    ]

good_slot : (k n t : ℕ) (x : Slot) → t < 128 → Good n t x → all_good? (of_slot k t x) ≡ true
good_slot k n t Empty lt g = refl
good_slot k n t (One a) lt g = good_start k t a g.0 lt g.2
good_slot k n t (Two a b) lt g = good_append (of_start k t a) (of_start k t b) (good_start k t a g.0 lt g.3) (good_start k t b g.0 lt g.4)

good_slots : (k n t : ℕ) (xs : List Slot) → t + length xs ≤ 128 → ((i : ℕ) → kept? n (t + i) (slice_index_or xs i Empty) ≡ true) → all_good? (of_slots k t xs) ≡ true
good_slots k n t [] le g = refl
good_slots k n t (x ∷ xs) le g =
    let z : t + 0 ≡ t = omega arith in
    let h = good_slot k n t x (omega arith) (good_parts n t x (ap (λ u. kept? n u x) (sym z) ∙ g 0)) in
    let r = good_slots k n (suc t) xs (omega arith) (λ i. let w : suc t + i ≡ t + suc i = omega arith in ap (λ u. kept? n u (slice_index_or xs i Empty)) w ∙ g (suc i)) in
    good_append (of_slot k t x) (of_slots k (suc t) xs) h r

good_listed : (xs : List Slot) (n k : ℕ) → length xs ≤ 128 → ((t : ℕ) → kept? n t (slice_index_or xs t Empty) ≡ true) → all_good? (listed xs k) ≡ true
good_listed xs n zero le g = refl
good_listed xs n (suc k) le g =
    good_append (listed xs k) (of_slots k 0 xs) (good_listed xs n k le g) (good_slots k n 0 xs (omega arith) (λ i. let w : 0 + i ≡ i = omega arith in ap (λ u. kept? n u (slice_index_or xs i Empty)) w ∙ g i))

pub sound_listed : (xs : List Slot) (n : ℕ) → length xs ≡ 128 → Orderly xs n → SoundList (listed xs n)
sound_listed xs n le s = (good_listed xs n n (omega arith) s.good, λ t. let c = count_size xs n t s in let k = size_le (slice_index_or xs t Empty) in omega arith)
