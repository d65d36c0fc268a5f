-- What is known of a book without faults.
use Rattle.std.proofs.Common.{◌≡◌, ℕ, ◌+◌, ◌<◌, ◌≤◌, true, false, not, ◌||◌, eqb, ltb, List, ◌++◌, length, get_or, is_some, Some, None, Option, refl, ap, subst, inl, inr, arith}
use Rattle.std.proofs.lemmas.Bool.{both_ways, or_parts, ltb-false, ltb-true, le-ltb, lt-ltb, not-false, eqb-true, false_from_ne_true}
use Rattle.std.proofs.lemmas.Option.{cond_some}
use Rattle.book.specs.declared.faults.Fault.{Fault}
use Rattle.book.specs.declared.faults.Cause.TheVariants.{Range, Sections, BadTask, NoTaskOne, BadInstruction}
use Rattle.book.specs.declared.sections.Layout.{Layout}
use Rattle.book.specs.declared.sections.TaskRow.{TaskRow}
use Rattle.book.specs.Numbers.{outside}
use Rattle.book.specs.Letters.{known}
use Rattle.book.specs.Layout.{layout_of, place_of_task, end_of_tasks, place_of_instruction, end_of_instructions, number_at, level_at, first_at, length_at, task_at, row_for, numbered}
use Rattle.book.specs.Faults.{fault}
use Rattle.book.specs.Verdict.{Test, Faultless, Framed, told, clean, astray, overlap, bad_task, bad_instruction, tests, size_tests, header_tests, row_tests, task_test, task_tests, instruction_test, instruction_tests}
use Rattle.book.specs.Reader.{count_in, steps_in, row_at, task_in, registered_in, level_of, level_in, length_of, length_in, place_of, script_place, or_blank, opened, blank_bytes}
use Rattle.book.proofs.Search.{row_for_some}
use Rattle.book.proofs.Found.{in_left, in_right, in_row}
use Rattle.book.proofs.First.{Least, first_least}

abbrev Clean : List ℕ → Type 0
Clean b = clean (told b) ≡ true

none_if_clean : (ts : List Test) (o : Option Fault) → clean o ≡ true → Least ts o → Faultless ts
none_if_clean ts None e h = h
none_if_clean ts (Some f) e h = absurd (both_ways false refl e)

faultless : (b : List ℕ) → Clean b → Faultless (tests b (layout_of b))
unfolding told
faultless b e = none_if_clean (tests b (layout_of b)) (told b) e (first_least (tests b (layout_of b)))

-- a test that failed would be found
header_passed : (b : List ℕ) → Clean b → Faultless (header_tests b (layout_of b))
header_passed b s g m =
    let l = layout_of b in
    faultless b s g (in_right g (size_tests b) (header_tests b l ++ row_tests b l) (in_left g (header_tests b l) (row_tests b l) m))

rows_passed : (b : List ℕ) → Clean b → Faultless (row_tests b (layout_of b))
rows_passed b s g m =
    let l = layout_of b in
    faultless b s g (in_right g (size_tests b) (header_tests b l ++ row_tests b l) (in_right g (header_tests b l) (row_tests b l) m))

task_passed : (b : List ℕ) (k : ℕ) → Clean b → k < (layout_of b).tasks.count → bad_task b (layout_of b) k ≡ false
task_passed b k s h =
    let l = layout_of b in
    false_from_ne_true (bad_task b l k)
    (λ e. rows_passed b s (fault BadTask (place_of_task l k))
    (in_left _ (task_tests b l) (instruction_tests b l) (inr (in_row (task_test b l) l.tasks.count k h e))))

instruction_passed : (b : List ℕ) (k : ℕ) → Clean b → k < (layout_of b).instructions.count → bad_instruction b (layout_of b) k ≡ false
instruction_passed b k s h =
    let l = layout_of b in
    false_from_ne_true (bad_instruction b l k)
    (λ e. rows_passed b s (fault BadInstruction (place_of_instruction l k))
    (in_right _ (task_tests b l) (instruction_tests b l) (in_row (instruction_test b l) l.instructions.count k h e)))

-- the sections lie within the book
pub tasks_within : (b : List ℕ) → Clean b → end_of_tasks (layout_of b) ≤ length b
tasks_within b s =
    let l = layout_of b in
    let p : astray b l.tasks.offset (end_of_tasks l) ≡ false =
    false_from_ne_true _ (λ e. header_passed b s (fault Sections 2) (inr (inr (inr (inl (e, refl)))))) in
    ltb-false (length b) (end_of_tasks l) (or_parts (ltb l.tasks.offset 12) (ltb (length b) (end_of_tasks l)) p).1

pub instructions_within : (b : List ℕ) → Clean b → end_of_instructions (layout_of b) ≤ length b
instructions_within b s =
    let l = layout_of b in
    let p : astray b l.instructions.offset (end_of_instructions l) ≡ false =
    false_from_ne_true _ (λ e. header_passed b s (fault Sections 6) (inr (inr (inr (inr (inl (e, refl))))))) in
    ltb-false (length b) (end_of_instructions l) (or_parts (ltb l.instructions.offset 12) (ltb (length b) (end_of_instructions l)) p).1

-- counts and steps are in their ranges
pub count_range : (b : List ℕ) → Clean b → (1 ≤ count_in b) × (count_in b ≤ 127)
count_range b s =
    let p : outside 1 127 (count_in b) ≡ false = false_from_ne_true _ (λ e. header_passed b s (fault Range 0) (inl (e, refl))) in
    let q = or_parts (ltb (count_in b) 1) (ltb 127 (count_in b)) p in
    (ltb-false (count_in b) 1 q.0, ltb-false 127 (count_in b) q.1)

pub steps_range : (b : List ℕ) → Clean b → steps_in b ≤ 1000000
steps_range b s =
    let p : outside 0 1000000 (steps_in b) ≡ false = false_from_ne_true _ (λ e. header_passed b s (fault Range 8) (inr (inr (inl (e, refl))))) in
    ltb-false 1000000 (steps_in b) (or_parts (ltb (steps_in b) 0) (ltb 1000000 (steps_in b)) p).1

-- so the header of a book without faults has none
pub framed : (b : List ℕ) → Clean b → Framed b (layout_of b)
framed b s = record {
  some = (count_range b s).0;
  tasks = tasks_within b s;
  instructions = instructions_within b s;
  apart = false_from_ne_true (overlap (layout_of b)) (λ e. header_passed b s (fault Sections 6) (inr (inr (inr (inr (inr (inl (e, refl))))))));
}

-- a row without faults
pub record RowFits (b : List ℕ) (t : ℕ) (r : TaskRow) : Type 0 where
  pub low : 1 ≤ t
  pub high : t ≤ 127
  pub level : r.level ≤ 4
  pub script : r.first + r.length ≤ (layout_of b).instructions.count

fits_at : (b : List ℕ) (t k : ℕ) → Clean b → k < (layout_of b).tasks.count → number_at b (layout_of b) k ≡ t → RowFits b t (task_at b (layout_of b) k)
fits_at b t k s h e =
    let l = layout_of b in
    let n = number_at b l k in
    let u = ltb l.instructions.count (first_at b l k + length_at b l k) in
    let p = or_parts (outside 1 127 n) (numbered b l n k || (ltb 4 (level_at b l k) || u)) (task_passed b k s h) in
    let o = or_parts (ltb n 1) (ltb 127 n) p.0 in
    let q = or_parts (numbered b l n k) (ltb 4 (level_at b l k) || u) p.1 in
    let r = or_parts (ltb 4 (level_at b l k)) u q.1 in
    record {
      low = subst (λ (m : ℕ). 1 ≤ m) e (ltb-false n 1 o.0);
      high = subst (λ (m : ℕ). m ≤ 127) e (ltb-false 127 n o.1);
      level = ltb-false 4 (level_at b l k) r.0;
      script = ltb-false l.instructions.count (first_at b l k + length_at b l k) r.1;
    }

fits_found : (b : List ℕ) (t : ℕ) (r : TaskRow) (o : Option ℕ) → Clean b → row_for b (layout_of b) t (layout_of b).tasks.count ≡ o → row_at b (layout_of b) o ≡ Some r → RowFits b t r
fits_found b t r None s q e = absurd (cc)
fits_found b t r (Some k) s q e =
    let w = row_for_some b (layout_of b) t (layout_of b).tasks.count k q in
    let v : task_at b (layout_of b) k ≡ r = cc in
    subst (λ (x : TaskRow). RowFits b t x) v (fits_at b t k s w.0 w.1)

pub task_fits : (b : List ℕ) (t : ℕ) (r : TaskRow) → Clean b → task_in b t ≡ Some r → RowFits b t r
task_fits b t r s e = fits_found b t r (row_for b (layout_of b) t (layout_of b).tasks.count) s refl e

-- what is known of tasks: their numbers, their levels, and that there is task 1
registered_where : (b : List ℕ) (t : ℕ) (o : Option TaskRow) → Clean b → task_in b t ≡ o → is_some o ≡ true → (1 ≤ t) × (t ≤ 127)
registered_where b t None s q e = absurd (both_ways false refl e)
registered_where b t (Some r) s q e = let f = task_fits b t r s q in (f.low, f.high)

pub registered_range : (b : List ℕ) (t : ℕ) → Clean b → registered_in b t ≡ true → (1 ≤ t) × (t ≤ 127)
registered_range b t s e = registered_where b t (task_in b t) s refl e

level_by : (b : List ℕ) (t : ℕ) (o : Option TaskRow) → Clean b → task_in b t ≡ o → level_of o ≤ 4
level_by b t None s q = omega arith
level_by b t (Some r) s q = (task_fits b t r s q).level

pub level_range : (b : List ℕ) (t : ℕ) → Clean b → level_in b t ≤ 4
level_range b t s = level_by b t (task_in b t) s refl

some_row : (b : List ℕ) (l : Layout) (o : Option ℕ) → is_some o ≡ true → is_some (row_at b l o) ≡ true
some_row b l None e = e
some_row b l (Some k) e = refl

pub task_one : (b : List ℕ) → Clean b → registered_in b 1 ≡ true
task_one b s =
    let l = layout_of b in
    let p : not (numbered b l 1 l.tasks.count) ≡ false = false_from_ne_true _ (λ e. rows_passed b s (fault NoTaskOne l.tasks.offset) (inl (e, refl))) in
    some_row b l (row_for b l 1 l.tasks.count) (not-false _ p)

-- the instructions of a script
pub record Placed (b : List ℕ) (t i p : ℕ) : Type 0 where
  pub index : i < length_in b t
  pub within : p + 12 ≤ length b
  pub letter : known (get_or b p 0) ≡ true
  pub zero : get_or b (p + 3) 0 ≡ 0

instruction_fits : (b : List ℕ) (k : ℕ) → Clean b → k < (layout_of b).instructions.count
    → (known (get_or b (place_of_instruction (layout_of b) k) 0) ≡ true) × (get_or b (place_of_instruction (layout_of b) k + 3) 0 ≡ 0)
instruction_fits b k s h =
    let p = place_of_instruction (layout_of b) k in
    let q = or_parts (not (known (get_or b p 0))) (not (eqb (get_or b (p + 3) 0) 0)) (instruction_passed b k s h) in
    (not-false _ q.0, eqb-true _ _ (not-false _ q.1))

placed_by : (b : List ℕ) (t i p : ℕ) (o : Option TaskRow) → Clean b → task_in b t ≡ o → place_of (layout_of b) o i ≡ Some p → Placed b t i p
placed_by b t i p None s q e = absurd (cc)
placed_by b t i p (Some r) s q e =
    let l = layout_of b in
    let k = r.first + i in
    let found = cond_some (ltb i r.length) (place_of_instruction l k) p e in
    let less : i < r.length = ltb-true i r.length found.0 in
    let fits = task_fits b t r s q in
    let row : k < l.instructions.count = omega (arith, fits.script) in
    let good = instruction_fits b k s row in
    let size : length_in b t ≡ r.length = ap length_of q in
    record {
      index = rw size less;
      within = subst (λ (m : ℕ). m + 12 ≤ length b) found.1 (omega (arith, instructions_within b s));
      letter = subst (λ (m : ℕ). known (get_or b m 0) ≡ true) found.1 good.0;
      zero = subst (λ (m : ℕ). get_or b (m + 3) 0 ≡ 0) found.1 good.1;
    }

pub placed : (b : List ℕ) (t i p : ℕ) → Clean b → script_place b t i ≡ Some p → Placed b t i p
placed b t i p s e = placed_by b t i p (task_in b t) s refl e

-- a script has a place for each of its instructions, and none beyond
beyond_by : (l : Layout) (o : Option TaskRow) (i : ℕ) → length_of o ≤ i → place_of l o i ≡ None
beyond_by l None i h = refl
beyond_by l (Some r) i h = let e : ltb i r.length ≡ false = le-ltb i r.length h in rw e

pub beyond_script : (b : List ℕ) (t i : ℕ) → length_in b t ≤ i → script_place b t i ≡ None
beyond_script b t i h = beyond_by (layout_of b) (task_in b t) i h

in_by : (l : Layout) (o : Option TaskRow) (i : ℕ) → i < length_of o → is_some (place_of l o i) ≡ true
in_by l None i h = absurd (omega arith)
in_by l (Some r) i h = let e : ltb i r.length ≡ true = lt-ltb i r.length h in rw e

pub in_script : (b : List ℕ) (t i : ℕ) → i < length_in b t → is_some (script_place b t i) ≡ true
in_script b t i h = in_by (layout_of b) (task_in b t) i h

-- the book that is opened has no faults
pub blank_clean : Clean blank_bytes
unfolding told
blank_clean = refl

opened_by : (b : List ℕ) (o : Option Fault) → told b ≡ o → Clean (or_blank o b)
opened_by b None e = ap clean e
opened_by b (Some f) e = blank_clean

pub opened_clean : (b : List ℕ) → Clean (opened b)
opened_clean b = opened_by b (told b) refl

pub none_clean : (b : List ℕ) → told b ≡ None → Clean b
none_clean b e = ap clean e
