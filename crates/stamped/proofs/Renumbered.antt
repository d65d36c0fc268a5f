-- What renumbering leaves: the same entries in the same order, with the smallest stamps there can be.
use Rattle.std.proofs.Common.{◌≡◌, ℕ, zero, suc, ◌+◌, ◌<◌, ◌≤◌, true, cond, ◌⊎◌, List, [], ◌∷◌, ◌++◌, map, length, get_or, sym, refl, ap, ◌∙◌, inl, inr, arith}
use Rattle.std.proofs.lemmas.Bool.Decides.{nat_tests}
use Rattle.std.proofs.lemmas.List.{length-append, nil_from_length, append-nil}
use Rattle.std.proofs.lemmas.Bool.{cases_lt, cases_eq, eq-eqb, ne_eqb}
use Rattle.roll.specs.declared.entry.Entry.{Entry}
use Rattle.roll.proofs.Sounds.{sound_length}
use Rattle.stamped.specs.declared.slot.Start.{Start}
use Rattle.stamped.specs.declared.slot.Slot.{Slot}
use Rattle.stamped.specs.declared.slot.Slot.TheVariants.{Empty, One, Two}
use Rattle.stamped.specs.Slots.{entry_of, of_start, of_slot, of_slots, upto, listed, good?}
use Rattle.stamped.specs.Numbers.{below, times_in, stamps_of, stamps_in, renumbered_start, renumbered_slot, renumbered}
use Rattle.stamped.specs.Families.{Good, good_parts, good_from}
use Rattle.stamped.specs.Counts.{Orderly, sound_listed}
use Rattle.stamped.specs.Writes.{good_at}
use Rattle.stamped.proofs.Numbers.{below_none, below_more, below_small, below_order, below_same, below_append, times_append}

-- ---- how many entries have a stamp
times_start : (k t : ℕ) (a : Start) → times_in k (a.stamp ∷ []) ≡ length (of_start k t a)
times_start k t a = grind (arith, nat_tests)

times_slot : (k t : ℕ) (x : Slot) → times_in k (stamps_of x) ≡ length (of_slot k t x)
times_slot k t Empty = refl
times_slot k t (One a) = times_start k t a
times_slot k t (Two a b) =
    let p = times_start k t a in
    let q = times_start k t b in
    let r = times_append k (a.stamp ∷ []) (b.stamp ∷ []) in
    let l = length-append (of_start k t a) (of_start k t b) in
    omega arith

times_slots : (k t : ℕ) (xs : List Slot) → times_in k (stamps_in xs) ≡ length (of_slots k t xs)
times_slots k t [] = refl
times_slots k t (x ∷ xs) =
    let p = times_slot k t x in
    let q = times_slots k (suc t) xs in
    let r = times_append k (stamps_of x) (stamps_in xs) in
    let l = length-append (of_slot k t x) (of_slots k (suc t) xs) in
    omega arith

times_at : (s t : ℕ) (xs : List Slot) → times_in s (stamps_of (get_or xs t Empty)) ≤ times_in s (stamps_in xs)
times_at s t [] = omega arith
times_at s zero (x ∷ xs) = let r = times_append s (stamps_of x) (stamps_in xs) in omega arith
times_at s (suc t) (x ∷ xs) = let r = times_append s (stamps_of x) (stamps_in xs) in let h = times_at s t xs in omega arith

-- ---- the entries of a stamp are those of its new number
module _ (ys : List ℕ) where
  abbrev new : ℕ → ℕ
  new s = below s ys

  start_renumbered : (k t : ℕ) (a : Start) → 0 < times_in a.stamp ys → 0 < times_in k ys → of_start (new k) t (renumbered_start new a) ≡ of_start k t a
  start_renumbered k t a p q = ap (λ b. cond b (entry_of t a ∷ []) []) (below_same a.stamp k ys p q)

  -- every stamp of the list is in use
  abbrev Used : List ℕ → Type 0
  Used zs = (s : ℕ) → 0 < times_in s zs → 0 < times_in s ys

  here : (s : ℕ) (zs : List ℕ) → 0 < times_in s (s ∷ zs)
  here s zs = rw (eq-eqb s s refl) (omega arith)

  slot_renumbered : (k t : ℕ) (x : Slot) → Used (stamps_of x) → 0 < times_in k ys → of_slot (new k) t (renumbered_slot new x) ≡ of_slot k t x
  slot_renumbered k t Empty u q = refl
  slot_renumbered k t (One a) u q = start_renumbered k t a (u a.stamp (here a.stamp [])) q
  slot_renumbered k t (Two a b) u q =
      let p = start_renumbered k t a (u a.stamp (here a.stamp (b.stamp ∷ []))) q in
      let two = times_append b.stamp (a.stamp ∷ []) (b.stamp ∷ []) in
      let one = here b.stamp [] in
      let r = start_renumbered k t b (u b.stamp (omega arith)) q in
      rw (p, r)

  slots_renumbered : (k t : ℕ) (xs : List Slot) → Used (stamps_in xs) → 0 < times_in k ys → of_slots (new k) t (map (renumbered_slot new) xs) ≡ of_slots k t xs
  slots_renumbered k t [] u q = refl
  slots_renumbered k t (x ∷ xs) u q =
      let p = slot_renumbered k t x (λ s h. u s (let r = times_append s (stamps_of x) (stamps_in xs) in omega arith)) q in
      let r = slots_renumbered k (suc t) xs (λ s h. u s (let r = times_append s (stamps_of x) (stamps_in xs) in omega arith)) q in
      rw (p, r)

  -- a number that a stamp of the list got, or one that none has
  gave : (k : ℕ) (zs : List ℕ) → ((s : ℕ) × (0 < times_in s zs) × (new s ≡ k)) ⊎ (times_in k (map new zs) ≡ 0)
  gave k [] = inr refl
  gave k (z ∷ zs) =
      elim (cases_eq (new z) k) [
        | inl e ↦ inl (z, here z zs, e)
        | inr d ↦
            elim (gave k zs) [
              | inl w ↦ let h = w.1 in let m : 0 < times_in w.0 (z ∷ zs) = grind (arith, nat_tests) in inl (w.0, m, w.2)
              | inr n ↦ let f = ne_eqb (new z) k d in inr (rw f n)
            ]
      ]

  stamps_renumbered : (xs : List Slot) → stamps_in (map (renumbered_slot new) xs) ≡ map new (stamps_in xs)
  stamps_renumbered [] = refl
  stamps_renumbered (Empty ∷ xs) = stamps_renumbered xs
  stamps_renumbered (One a ∷ xs) = ap (λ l. new a.stamp ∷ l) (stamps_renumbered xs)
  stamps_renumbered (Two a b ∷ xs) = ap (λ l. new a.stamp ∷ new b.stamp ∷ l) (stamps_renumbered xs)

  slot_at : (t : ℕ) (xs : List Slot) → get_or (map (renumbered_slot new) xs) t Empty ≡ renumbered_slot new (get_or xs t Empty)
  slot_at t [] = refl
  slot_at zero (x ∷ xs) = refl
  slot_at (suc t) (x ∷ xs) = slot_at t xs

  good_renumbered : (n t : ℕ) (x : Slot) → Used (stamps_of x) → Good n t x → Good (length ys) t (renumbered_slot new x)
  good_renumbered n t Empty u g = tt
  good_renumbered n t (One a) u g = (g.0, below_small a.stamp ys (u a.stamp (here a.stamp [])), g.2)
  good_renumbered n t (Two a b) u g =
      let two = times_append b.stamp (a.stamp ∷ []) (b.stamp ∷ []) in
      let one = here b.stamp [] in
      (g.0, below_order a.stamp b.stamp ys (u a.stamp (here a.stamp (b.stamp ∷ []))) g.1, below_small b.stamp ys (u b.stamp (omega arith)), g.3, g.4)

-- ---- all stamps are below the next
slot_below : (n t : ℕ) (x : Slot) → Good n t x → below n (stamps_of x) ≡ length (stamps_of x)
slot_below n t Empty g = refl
slot_below n t (One a) g = grind (arith, nat_tests)
slot_below n t (Two a b) g = let h : a.stamp < n = omega arith in grind (arith, nat_tests)

slots_below : (n t : ℕ) (xs : List Slot) → ((i : ℕ) → good? n (t + i) (get_or xs i Empty) ≡ true) → below n (stamps_in xs) ≡ length (stamps_in xs)
slots_below n t [] g = refl
slots_below n t (x ∷ xs) g =
    let z : t + 0 ≡ t = omega arith in
    let p = slot_below n t x (good_parts n t x (ap (λ u. good? n u x) (sym z) ∙ g 0)) in
    let q = slots_below n (suc t) xs (λ i. let w : suc t + i ≡ t + suc i = omega arith in ap (λ u. good? n u (get_or xs i Empty)) w ∙ g (suc i)) in
    let r = below_append n (stamps_of x) (stamps_in xs) in
    let l = length-append (stamps_of x) (stamps_in xs) in
    omega arith

stamps_below : (xs : List Slot) (n : ℕ) → Orderly xs n → below n (stamps_in xs) ≡ length (stamps_in xs)
stamps_below xs n o = slots_below n 0 xs (λ i. let w : 0 + i ≡ i = omega arith in ap (λ u. good? n u (get_or xs i Empty)) w ∙ o.good i)

-- ---- a row of slots
module _ (xs : List Slot) (n : ℕ) (o : Orderly xs n) where
  abbrev ys : List ℕ
  ys = stamps_in xs

  abbrev F : ℕ → List Entry
  F k = of_slots k 0 xs

  abbrev G : ℕ → List Entry
  G k = of_slots k 0 (renumbered xs)

  joined : (k : ℕ) → upto G (below k ys) ≡ upto F k
  joined zero = rw (below_none ys)
  joined (suc k) =
      let more = below_more k ys in
      let times = times_slots k 0 xs in
      let few = o.apart k in
      elim (cases_lt 0 (times_in k ys)) [
        | inl used ↦
            let e : below (suc k) ys ≡ suc (below k ys) = omega arith in
            ap (upto G) e ∙ ap (λ l. l ++ G (below k ys)) (joined k) ∙ ap (λ l. upto F k ++ l) (slots_renumbered ys k 0 xs (λ s h. h) used)
        | inr unused ↦
            let e : below (suc k) ys ≡ below k ys = omega arith in
            let z : F k ≡ [] = nil_from_length (F k) (omega arith) in
            ap (upto G) e ∙ joined k ∙ sym (ap (λ l. upto F k ++ l) z ∙ append-nil (upto F k))
      ]

  counted : (k : ℕ) → length (upto F k) ≡ below k ys
  counted zero = sym (below_none ys)
  counted (suc k) =
      let more = below_more k ys in
      let times = times_slots k 0 xs in
      let l = length-append (upto F k) (F k) in
      let h = counted k in
      omega arith

  used_at : (t : ℕ) → Used ys (stamps_of (get_or xs t Empty))
  used_at t s p = let h = times_at s t xs in omega arith

  number_of : (k : ℕ) → length (G k) ≤ 1
  number_of k =
      elim (gave ys k ys) [
        | inl w ↦ let e = slots_renumbered ys w.0 0 xs (λ s h. h) w.1 in let l = ap length e in let f = o.apart w.0 in let q = ap (λ j. length (G j)) w.2 in omega arith
        | inr none ↦ let t = times_slots k 0 (renumbered xs) in let q = ap (times_in k) (stamps_renumbered ys xs) in omega arith
      ]

  pub renumbered_orderly : Orderly (renumbered xs) (length ys)
  renumbered_orderly =
      record {
        apart = number_of;
        good = λ t. ap (good? (length ys) t) (slot_at ys t xs) ∙ good_from (length ys) t (renumbered_slot (new ys) (get_or xs t Empty)) (good_renumbered ys n t (get_or xs t Empty) (used_at t) (good_at xs n t (get_or xs t Empty) o refl));
      }

  pub renumbered_listed : listed (renumbered xs) (length ys) ≡ listed xs n
  renumbered_listed = ap (upto G) (sym (stamps_below xs n o)) ∙ joined n

  pub renumbered_count : length ys ≡ length (listed xs n)
  renumbered_count = sym (stamps_below xs n o) ∙ sym (counted n)

  pub renumbered_few : length xs ≡ 128 → length ys ≤ 254
  renumbered_few len = let h = renumbered_count in let k = sound_length (listed xs n) (sound_listed xs n len o) in omega arith
