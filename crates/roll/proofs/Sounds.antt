-- What is true of sound entries, and that every change leaves them sound.
use Rattle.std.proofs.Common.{◌≡◌, ℕ, zero, suc, ◌+◌, ◌*◌, ◌<◌, ◌≤◌, Bool, true, false, cond, not, ◌&&◌, ltb, leb, List, [], ◌∷◌, ◌++◌, length, refl, ap, ◌∙◌, arith}
use Rattle.std.specs.List.{AllByRecursion as All}
use Rattle.std.proofs.lemmas.Bool.Decides.{nat_tests}
use Rattle.std.proofs.lemmas.Bool.{and_parts, and_from, ltb-true}
use Rattle.std.proofs.lemmas.List.{length_push}
use Rattle.roll.specs.Ranges.{task?, level?}
use Rattle.roll.specs.Entries.{of?, count_of, awake, ended, marking, marked, cleared, levelled, raised, good?, all_good?, SoundList}
use Rattle.roll.specs.declared.entry.Entry.{Entry}
use Rattle.roll.proofs.Counts.{count_push, count_ended, count_cleared, count_marking, count_levelled}

-- ---- in range
pub task_range : (t : ℕ) → task? t ≡ true → (0 < t) × (t < 128)
task_range t p = let q = and_parts (ltb 0 t) (ltb t 128) p in (ltb-true 0 t q.0, ltb-true t 128 q.1)

pub good_head : (e : Entry) (es : List Entry) → all_good? (e ∷ es) ≡ true → (task? e.task ≡ true) × (all_good? es ≡ true)
good_head e es p =
    let q = and_parts (good? e) (all_good? es) p in
    ((and_parts (task? e.task) (level? e.level) q.0).0, q.1)

pub good_all : (es : List Entry) → all_good? es ≡ true → All (λ e. task? e.task ≡ true) es
good_all [] p = tt
good_all (e ∷ es) p = let q = good_head e es p in (q.0, good_all es q.1)

-- a task out of range has no entry
pub count_outside : (t : ℕ) (es : List Entry) → all_good? es ≡ true → task? t ≡ false → count_of t es ≡ 0
count_outside t [] p q = refl
count_outside t (e ∷ es) p q =
    let g = good_head e es p in
    let h = count_outside t es g.1 q in
    let r = task_range e.task g.0 in
    grind (arith, nat_tests)

-- ---- one more
good_push : (es : List Entry) (e : Entry) → all_good? es ≡ true → good? e ≡ true → all_good? (es ++ e ∷ []) ≡ true
good_push [] e p q = and_from (good? e) true q refl
good_push (x ∷ es) e p q = let r = and_parts (good? x) (all_good? es) p in and_from (good? x) (all_good? (es ++ e ∷ [])) r.0 (good_push es e r.1 q)

pub sound_added : (t l : ℕ) (es : List Entry) → SoundList es → task? t ≡ true → level? l ≡ true → count_of t es < 2 → SoundList (es ++ awake t l ∷ [])
sound_added t l es s p q r = (good_push es (awake t l) s.0 (and_from (task? t) (level? l) p q), λ u. let h = count_push u es (awake t l) in let k = s.1 u in grind (arith, nat_tests))

-- ---- the oldest away
good_ended : (t : ℕ) (es : List Entry) → all_good? es ≡ true → all_good? (ended t es) ≡ true
good_ended t [] p = refl
good_ended t (e ∷ es) p =
    let q = and_parts (good? e) (all_good? es) p in
    elim (of? t e) as (λ v. all_good? (cond v es (e ∷ ended t es)) ≡ true) [
      | true ↦ q.1
      | false ↦ and_from (good? e) (all_good? (ended t es)) q.0 (good_ended t es q.1)
    ]

pub sound_ended : (t : ℕ) (es : List Entry) → SoundList es → SoundList (ended t es)
sound_ended t es s = (good_ended t es s.0, λ u. let h = count_ended u t es in let k = s.1 u in grind (arith, nat_tests))

-- ---- all of t away
good_cleared : (t : ℕ) (es : List Entry) → all_good? es ≡ true → all_good? (cleared t es) ≡ true
good_cleared t [] p = refl
good_cleared t (e ∷ es) p =
    let q = and_parts (good? e) (all_good? es) p in
    elim (of? t e) as (λ v. all_good? (cond (not v) (e ∷ cleared t es) (cleared t es)) ≡ true) [
      | true ↦ good_cleared t es q.1
      | false ↦ and_from (good? e) (all_good? (cleared t es)) q.0 (good_cleared t es q.1)
    ]

pub sound_cleared : (t : ℕ) (es : List Entry) → SoundList es → SoundList (cleared t es)
sound_cleared t es s = (good_cleared t es s.0, λ u. let h = count_cleared u t es in let k = s.1 u in grind (arith, nat_tests))

-- ---- a mark
good_marking : (b : Bool) (t : ℕ) (es : List Entry) → all_good? (marking b t es) ≡ all_good? es
good_marking b t [] = refl
good_marking b t (e ∷ es) =
    elim (of? t e) as (λ v. all_good? (cond v (marked b e ∷ es) (e ∷ marking b t es)) ≡ all_good? (e ∷ es)) [
      | true ↦ refl
      | false ↦ ap (λ r. good? e && r) (good_marking b t es)
    ]

pub sound_marking : (b : Bool) (t : ℕ) (es : List Entry) → SoundList es → SoundList (marking b t es)
sound_marking b t es s = (good_marking b t es ∙ s.0, λ u. let h = count_marking b u t es in let k = s.1 u in omega arith)

-- ---- a level for all of t
good_levelled : (t l : ℕ) (es : List Entry) → level? l ≡ true → all_good? es ≡ true → all_good? (levelled t l es) ≡ true
good_levelled t l [] q p = refl
good_levelled t l (e ∷ es) q p =
    let r = and_parts (good? e) (all_good? es) p in
    let g = and_parts (task? e.task) (level? e.level) r.0 in
    let ih = good_levelled t l es q r.1 in
    elim (of? t e) as (λ v. all_good? (cond v (raised l e) e ∷ levelled t l es) ≡ true) [
      | true ↦ and_from (good? (raised l e)) (all_good? (levelled t l es)) (and_from (task? e.task) (level? l) g.0 q) ih
      | false ↦ and_from (good? e) (all_good? (levelled t l es)) r.0 ih
    ]

pub sound_levelled : (t l : ℕ) (es : List Entry) → level? l ≡ true → SoundList es → SoundList (levelled t l es)
sound_levelled t l es q s = (good_levelled t l es q s.0, λ u. let h = count_levelled u t l es in let k = s.1 u in omega arith)

-- ---- at most 254 entries: those of the tasks up to n are at most twice n
abbrev upto : ℕ → List Entry → ℕ
upto n [] = 0
upto n (e ∷ es) = cond (leb e.task n) (suc (upto n es)) (upto n es)

upto_more : (n : ℕ) (es : List Entry) → upto (suc n) es ≡ upto n es + count_of (suc n) es
upto_more n [] = omega arith
upto_more n (e ∷ es) = let h = upto_more n es in grind (arith, nat_tests)

upto_none : (es : List Entry) → all_good? es ≡ true → upto 0 es ≡ 0
upto_none [] p = refl
upto_none (e ∷ es) p =
    let q = good_head e es p in
    let r = task_range e.task q.0 in
    let h = upto_none es q.1 in grind (arith, nat_tests)

upto_all : (es : List Entry) → all_good? es ≡ true → upto 127 es ≡ length es
upto_all [] p = refl
upto_all (e ∷ es) p =
    let q = good_head e es p in
    let r = task_range e.task q.0 in
    let h = upto_all es q.1 in grind (arith, nat_tests)

upto_twice : (es : List Entry) → SoundList es → (n : ℕ) → upto n es ≤ 2 * n
upto_twice es s zero = let h = upto_none es s.0 in omega arith
upto_twice es s (suc n) = let h = upto_twice es s n in let k = upto_more n es in let c = s.1 (suc n) in omega arith

pub sound_length : (es : List Entry) → SoundList es → length es ≤ 254
sound_length es s = let h = upto_all es s.0 in let k = upto_twice es s 127 in omega arith

-- where one more entry of t is allowed, there is room for it
pub sound_room : (t : ℕ) (es : List Entry) → SoundList es → task? t ≡ true → count_of t es < 2 → length es < 254
sound_room t es s p r =
    let h = sound_length (es ++ awake t 0 ∷ []) (sound_added t 0 es s p refl r) in
    let k = length_push es (awake t 0) in
    omega arith
