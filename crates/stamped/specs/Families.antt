-- The entries by their stamps: what a write to one slot changes.
use Rattle.std.specs.Prelude.{◌≡◌, ℕ, zero, suc, ◌+◌, ◌<◌, ◌≤◌, true, ◌≢◌, List, [], ◌∷◌, ◌++◌, length, take, drop, slice_index_or, slice_set, refl}
use Rattle.std.proofs.Common.{sym, ap, ◌∙◌, append_assoc, inl, inr, arith}
use Rattle.std.proofs.lemmas.Bool.Decides.{nat_tests}
use Rattle.std.proofs.lemmas.Bool.{cases_eq}
use Rattle.std.proofs.lemmas.List.{length-append, set-get_or, nil_from_length, append-nil}
use Rattle.roll.specs.declared.entry.Entry.{Entry}
use Rattle.stamped.specs.declared.slot.Slot.{Slot}
use Rattle.stamped.specs.declared.slot.Slot.TheVariants.{Empty, One, Two}
use Rattle.stamped.specs.Slots.{of_slot, of_slots, upto, good?}

-- ---- good?
abbrev pub Good : ℕ → ℕ → Slot → Type 0
Good n t Empty = Unit {0}
Good n t (One a) = (0 < t) × (a.stamp < n) × (a.level < 5)
Good n t (Two a b) = (0 < t) × (a.stamp < b.stamp) × (b.stamp < n) × (a.level < 5) × (b.level < 5)

pub good_parts : (n t : ℕ) (x : Slot) → good? n t x ≡ true → Good n t x
good_parts n t Empty p = tt
good_parts n t (One a) p = (grind (arith, nat_tests), grind (arith, nat_tests), grind (arith, nat_tests))
good_parts n t (Two a b) p = (grind (arith, nat_tests), grind (arith, nat_tests), grind (arith, nat_tests), grind (arith, nat_tests), grind (arith, nat_tests))

pub good_from : (n t : ℕ) (x : Slot) → Good n t x → good? n t x ≡ true
good_from n t Empty p = refl
good_from n t (One a) p = grind (arith, nat_tests)
good_from n t (Two a b) p = grind (arith, nat_tests)

-- ---- a write to one slot
pub slots_set : (k t i j : ℕ) (xs : List Slot) (y : Slot) → t + i ≡ j → i < length xs → of_slots k t (slice_set xs i y) ≡ of_slots k t (take i xs) ++ (of_slot k j y ++ of_slots k (suc j) (drop (suc i) xs))
slots_set k t i j [] y e lt = absurd (omega arith)
slots_set k t zero j (x ∷ xs) y e lt = let q : t ≡ j = omega arith in rw q
slots_set k t (suc i) j (x ∷ xs) y e lt =
    ap (λ l. of_slot k t x ++ l) (slots_set k (suc t) i j xs y (omega arith) (omega arith)) ∙ sym (append_assoc (of_slot k t x) (of_slots k (suc t) (take i xs)) (of_slot k j y ++ of_slots k (suc j) (drop (suc i) xs)))

pub slots_get : (k i : ℕ) (xs : List Slot) → i < length xs → of_slots k 0 xs ≡ of_slots k 0 (take i xs) ++ (of_slot k i (slice_index_or xs i Empty) ++ of_slots k (suc i) (drop (suc i) xs))
slots_get k i xs lt = ap (of_slots k 0) (sym (set-get_or xs i Empty)) ∙ slots_set k 0 i i xs (slice_index_or xs i Empty) (omega arith) lt

-- a slot with the same entries of stamp k
pub slots_else : (k i : ℕ) (xs : List Slot) (y : Slot) → i < length xs → of_slot k i y ≡ of_slot k i (slice_index_or xs i Empty) → of_slots k 0 (slice_set xs i y) ≡ of_slots k 0 xs
slots_else k i xs y lt e =
    let a = slots_set k 0 i i xs y (omega arith) lt in
    let b = slots_get k i xs lt in
    let p = of_slots k 0 (take i xs) in
    let q = of_slots k (suc i) (drop (suc i) xs) in
    a ∙ ap (λ l. p ++ (l ++ q)) e ∙ sym b

-- with no other entry of stamp s
pub slots_point : (s i : ℕ) (xs : List Slot) (y : Slot) → i < length xs → length (of_slots s 0 xs) ≤ length (of_slot s i (slice_index_or xs i Empty)) → (of_slots s 0 xs ≡ of_slot s i (slice_index_or xs i Empty)) × (of_slots s 0 (slice_set xs i y) ≡ of_slot s i y)
slots_point s i xs y lt le =
    let a = slots_set s 0 i i xs y (omega arith) lt in
    let b = slots_get s i xs lt in
    let h = of_slot s i (slice_index_or xs i Empty) in
    let p = of_slots s 0 (take i xs) in
    let q = of_slots s (suc i) (drop (suc i) xs) in
    let n = ap length b in
    let n1 = length-append p (h ++ q) in
    let n2 = length-append h q in
    let zp : p ≡ [] = nil_from_length p (omega arith) in
    let zq : q ≡ [] = nil_from_length q (omega arith) in
    (b ∙ rw (zp, zq, append-nil), a ∙ rw (zp, zq, append-nil))

-- ---- families
pub upto_same : (F G : ℕ → List Entry) (k : ℕ) → ((j : ℕ) → j < k → F j ≡ G j) → upto F k ≡ upto G k
upto_same F G zero h = refl
upto_same F G (suc k) h = let a = upto_same F G k (λ j l. h j (omega arith)) in let b = h k (omega arith) in rw (a, b)

-- two families that differ at s alone
pub upto_point : (F G : ℕ → List Entry) (s k : ℕ) → s < k → ((j : ℕ) → j < k → j ≢ s → F j ≡ G j) → (vs : List Entry) × (upto F k ≡ upto F s ++ (F s ++ vs)) × (upto G k ≡ upto F s ++ (G s ++ vs))
upto_point F G s zero lt h = absurd (omega arith)
upto_point F G s (suc k) lt h =
    elim (cases_eq k s) [
      | inl e ↦
          let a = upto_same F G s (λ j l. h j (omega arith) (omega arith)) in
          ([], rw (e, append-nil), rw (e, append-nil, a))
      | inr n ↦
          let w = upto_point F G s k (omega arith) (λ j l m. h j (omega arith) m) in
          let b = h k (omega arith) n in
          let vs = w.0 in
          let xs = upto F s in
          (vs ++ F k, ap (λ l. l ++ F k) w.1 ∙ append_assoc xs (F s ++ vs) (F k) ∙ ap (λ l. xs ++ l) (append_assoc (F s) vs (F k)), ap (λ l. l ++ G k) w.2 ∙ append_assoc xs (G s ++ vs) (G k) ∙ ap (λ l. xs ++ l) (append_assoc (G s) vs (G k)) ∙ ap (λ l. xs ++ (G s ++ (vs ++ l))) (sym b))
    ]
