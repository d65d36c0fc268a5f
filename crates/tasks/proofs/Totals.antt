-- All entries of a roll are those of the tasks 1 to 127.
use Rattle.std.proofs.Common.{◌≡◌, ℕ, zero, suc, ◌+◌, ◌*◌, ◌<◌, ◌≤◌, true, cond, ltb, List, [], ◌∷◌, length, refl, ap, arith}
use Rattle.std.specs.List.{sum_by, range_with_len}
use Rattle.std.proofs.lemmas.Bool.Decides.{nat_tests}
use Rattle.std.proofs.lemmas.Bool.{and_parts, ltb-true}
use Rattle.std.proofs.lemmas.List.Sums.{sum_by-cons}
use Rattle.roll.specs.Ranges.{task?, level?}
use Rattle.roll.specs.Entries.{count_of, good?, all_good?, SoundList}
use Rattle.roll.specs.declared.entry.Entry.{Entry}

-- the entries of the n tasks from a on
abbrev pub counted : List Entry → ℕ → ℕ → ℕ
counted es a n = sum_by (λ t. count_of t es) (range_with_len a n)

-- how many entries have a task below n
abbrev before : ℕ → List Entry → ℕ
before n [] = 0
before n (e ∷ es) = cond (ltb e.task n) (suc (before n es)) (before n es)

before_more : (n : ℕ) (es : List Entry) → before (n + 1) es ≡ before n es + count_of n es
before_more n [] = omega arith
before_more n (e ∷ es) = let h = before_more n es in grind (arith, nat_tests)

before_counted : (es : List Entry) (a n : ℕ) → before (a + n) es ≡ before a es + counted es a n
before_counted es a zero = let e : a + zero ≡ a = omega arith in let p = ap (λ k. before k es) e in omega (arith, p)
before_counted es a (suc n) =
    let e : a + suc n ≡ a + 1 + n = omega arith in
    let p = ap (λ k. before k es) e in
    omega (arith, p, before_counted es (a + 1) n, before_more a es, sum_by-cons (λ t. count_of t es) a (range_with_len (a + 1) n))

ranged : (e : Entry) (es : List Entry) → all_good? (e ∷ es) ≡ true → (0 < e.task) × (e.task < 128) × (all_good? es ≡ true)
ranged e es p =
    let q = and_parts (good? e) (all_good? es) p in
    let g = and_parts (task? e.task) (level? e.level) q.0 in
    let f = and_parts (ltb 0 e.task) (ltb e.task 128) g.0 in
    (ltb-true 0 e.task f.0, ltb-true e.task 128 f.1, q.1)

before_first : (es : List Entry) → all_good? es ≡ true → before 1 es ≡ 0
before_first [] p = refl
before_first (e ∷ es) p = let r = ranged e es p in let h = before_first es r.2 in let a = r.0 in grind (arith, nat_tests)

before_all : (es : List Entry) → all_good? es ≡ true → before 128 es ≡ length es
before_all [] p = refl
before_all (e ∷ es) p = let r = ranged e es p in let h = before_all es r.2 in let a = r.1 in grind (arith, nat_tests)

pub counted_all : (es : List Entry) → SoundList es → counted es 1 127 ≡ length es
counted_all es s = omega (arith, before_counted es 1 127, before_first es s.0, before_all es s.0)

counted_twice : (es : List Entry) (a n : ℕ) → ((t : ℕ) → count_of t es ≤ 2) → counted es a n ≤ 2 * n
counted_twice es a zero h = omega arith
counted_twice es a (suc n) h = omega (arith, h a, counted_twice es (a + 1) n h, sum_by-cons (λ t. count_of t es) a (range_with_len (a + 1) n))

-- so they fit a byte
pub counted_fits : (es : List Entry) → SoundList es → counted es 1 127 < 256
counted_fits es s = omega (arith, counted_twice es 1 127 s.1)
