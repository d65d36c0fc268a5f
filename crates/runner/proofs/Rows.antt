-- The rows of a script, and what is done at one.
use Rattle.std.proofs.Common.{◌≡◌, ℕ, zero, suc, ◌^◌, ◌<◌, ◌≤◌, Bool, true, false, cond, ◌||◌, ltb, List, [], ◌∷◌, get_or, Some, None, Option, sym, refl, ap, ◌∙◌, arith, Bor}
use Rattle.std.proofs.lemmas.Bool.{both_ways, or_parts, ltb-false, ne_eqb}
use Rattle.book.specs.declared.faults.Fault.{Fault}
use Rattle.book.specs.declared.faults.Cause.TheVariants.{Size}
use Rattle.book.specs.declared.sections.TaskRow.{TaskRow}
use Rattle.book.specs.Layout.{layout_of}
use Rattle.book.specs.Verdict.{Test, test, tests, first, sooner, told, clean}
use Rattle.book.specs.Reader.{script_place, Handed, task_in, length_in, length_of}
use Rattle.book.proofs.Clean.{task_fits, placed}
use Rattle.book.proofs.Handing.{row_handed}
use Rattle.rules.specs.State.{Station}
use Rattle.runner.specs.declared.instruction.Instruction.{Instruction}
use Rattle.runner.specs.declared.positions.Position.{Position}
use Rattle.runner.specs.Instructions.{decoded}
use Rattle.runner.specs.Scripts.{Progress, instruction_in, instruction_of, processor, does, nothing, acted, row_done}

passed_by : (z : Bool) (f : Fault) (o : Option Fault) → clean (cond z (Some f) o) ≡ true → (z ≡ false) × (clean o ≡ true)
passed_by true f o e = absurd (both_ways false refl e)
passed_by false f o e = (refl, e)

-- where no fault is told, every test is passed
passed_at : (ts : List Test) (k : ℕ) (d : Test) → d.fails ≡ false → clean (first ts) ≡ true → (get_or ts k d).fails ≡ false
passed_at [] k d q e = q
passed_at (t ∷ ts) zero d q e = (passed_by t.fails (sooner t.tells (first ts)) (first ts) e).0
passed_at (t ∷ ts) (suc k) d q e = passed_at ts k d q (passed_by t.fails (sooner t.tells (first ts)) (first ts) e).1

-- a book has at most 4,096 instructions
few_instructions : (b : List ℕ) → clean (told b) ≡ true → (layout_of b).instructions.count ≤ 4096
unfolding told
few_instructions b s =
    let n = (layout_of b).instructions.count in
    let p : (ltb n 0 || ltb 4096 n) ≡ false = passed_at (tests b (layout_of b)) 2 (test false Size 0) refl s in
    ltb-false 4096 n (or_parts (ltb n 0) (ltb 4096 n) p).1

short_by : (b : List ℕ) (t : ℕ) (o : Option TaskRow) → clean (told b) ≡ true → task_in b t ≡ o → length_of o ≤ 4096
short_by b t None s q = omega arith
short_by b t (Some r) s q = omega (arith, (task_fits b t r s q).script, few_instructions b s)

short_script : (b : List ℕ) (t : ℕ) → clean (told b) ≡ true → length_in b t ≤ 4096
short_script b t s = short_by b t (task_in b t) s refl

-- a row that was handed out has a small index
pub small_row : (s : Bor (List ℕ)) (t i : ℕ) (r : Bor (List ℕ)) → clean (told s.now) ≡ true → Handed s (script_place s.now t i) (Some r) → i < 2 ^ 32
small_row s t i r c h =
    let w = row_handed s t i r c h in
    let p = placed s.now t i w.place c w.found in
    omega (arith, p.index, short_script s.now t c)

pub handed_some : (s : Bor (List ℕ)) (o : Option ℕ) (r : Bor (List ℕ)) → Handed s o (Some r) → decoded r.now ≡ instruction_in s.now o
handed_some s None r h = absurd h
handed_some s (Some p) r h = ap decoded h.0

pub handed_none : (s : Bor (List ℕ)) (o : Option ℕ) → Handed s o None → None ≡ instruction_in s.now o
handed_none s None h = refl
handed_none s (Some p) h = absurd h

-- progress that agrees in both parts
pub same_progress : {s s' : Station} {p p' : ℕ → Position} → s ≡ s' → p ≡ p' → ◌≡◌ {A = Progress} (record { station = s; positions = p }) (record { station = s'; positions = p' })
same_progress {s} {s'} {p} {p'} a b =
    ap (λ (x : Station). let r : Progress = record { station = x; positions = p } in r) a
    ∙ ap (λ (x : ℕ → Position). let r : Progress = record { station = s'; positions = x } in r) b

-- what is done at a row by the task that has the processor, or where none has it
pub row_idle : (b : List ℕ) (p q : Progress) → 0 ≡ processor p.station → q ≡ p → nothing q ≡ row_done b p
unfolding row_done
row_idle b p q e s = ap (λ (x : Progress). nothing x) s ∙ ap (acted b p) e

pub row_does : (b : List ℕ) (p q : Progress) (t : ℕ) (o : Option Instruction) → t ≡ processor p.station → q ≡ p → 1 ≤ t → o ≡ instruction_of b t (q.positions t).row → does q t o ≡ row_done b p
unfolding row_done
row_does b p q t o e s h i =
    ap (does q t) i
    ∙ ap (λ (f : Bool). cond f (nothing q) (does q t (instruction_of b t (q.positions t).row))) (sym (ne_eqb t 0 (λ z. omega (arith, z, h))))
    ∙ ap (λ (x : Progress). acted b x t) s
    ∙ ap (acted b p) e
