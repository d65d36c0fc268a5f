-- `first` finds the first fault, and there is only one.
use Rattle.std.proofs.Common.{◌≡◌, ℕ, Bool, true, false, cond, eqb, List, [], ◌∷◌, ◌++◌, Some, None, Ok, Err, Option, Result, sym, refl, ap, ◌∙◌, subst, inl, inr, arith}
use Rattle.std.specs.Result.{IsErrAnd}
use Rattle.std.proofs.lemmas.Bool.{both_ways}
use Rattle.std.proofs.lemmas.Bool.Decides.{nat_tests}
use Rattle.book.specs.declared.faults.Fault.{Fault}
use Rattle.book.specs.declared.faults.Layer.{Layer}
use Rattle.book.specs.declared.sections.Layout.{Layout}
use Rattle.book.specs.declared.faults.Cause.{Cause}
use Rattle.book.specs.declared.faults.Cause.TheVariants.{Size, Range, Sections, BadTask, NoTaskOne, BadInstruction}
use Rattle.book.specs.Layout.{layout_of}
use Rattle.book.specs.Faults.{fault, before, layer_of, number_of}
use Rattle.book.specs.Verdict.{Test, Found, Faultless, Firsts, Tells, OnlyTells, sooner, first, told, judged, verdict, size_tests, header_tests, row_tests, tests}
use Rattle.book.proofs.Found.{each_test, each_of, each_append, each_rows}

never_before_itself : (f : Fault) → before f f ≡ false
never_before_itself f = grind (arith, nat_tests)

one_way : (f g : Fault) → before g f ≡ true → before f g ≡ false
one_way f g h = grind (arith, nat_tests)

not_before_joins : (f g h : Fault) → before h g ≡ false → before g f ≡ false → before h f ≡ false
not_before_joins f g h p q = grind (arith, nat_tests)

abbrev pub Least : List Test → Option Fault → Type 0
Least ts None = Faultless ts
Least ts (Some f) = Firsts ts f

least_skip : (t : Test) (ts : List Test) (o : Option Fault) → t.fails ≡ false → Least ts o → Least (t ∷ ts) o
least_skip t ts None e h = each_test (λ g. ⊥) t ts (λ q. both_ways _ e q) h
least_skip t ts (Some f) e h = (inr h.0, each_test (λ g. before g f ≡ false) t ts (λ q. absurd (both_ways _ e q)) h.1)

least_take : (t : Test) (ts : List Test) (o : Option Fault) → t.fails ≡ true → Least ts o → Least (t ∷ ts) (Some (sooner t.tells o))
least_take t ts None e h =
    (inl (e, refl), each_test (λ g. before g t.tells ≡ false) t ts (λ _. never_before_itself t.tells) (λ g m. absurd (h g m)))
least_take t ts (Some f) e h =
    let P : Bool → Type 0 = λ b. before f t.tells ≡ b → Firsts (t ∷ ts) (cond b f t.tells) in
    elim (before f t.tells) as P [
      | true ↦ λ q. (inr h.0, each_test (λ g. before g f ≡ false) t ts (λ _. one_way t.tells f q) h.1)
      | false ↦ λ q. (inl (e, refl), each_test (λ g. before g t.tells ≡ false) t ts (λ _. never_before_itself t.tells) (λ g m. not_before_joins t.tells f g (h.1 g m) q))
    ] refl

pub first_least : (ts : List Test) → Least ts (first ts)
first_least [] = λ g m. m
first_least (t ∷ ts) =
    let ih = first_least ts in
    let P : Bool → Type 0 = λ b. t.fails ≡ b → Least (t ∷ ts) (cond b (Some (sooner t.tells (first ts))) (first ts)) in
    elim t.fails as P [ true ↦ λ e. least_take t ts (first ts) e ih | false ↦ λ e. least_skip t ts (first ts) e ih ] refl

least_told : (ts : List Test) (o : Option Fault) (l : Layout) → Least ts o → Tells ts (judged o l)
least_told ts None l h = h
least_told ts (Some f) l h = h

-- there is only one: two faults of which neither comes before the other are the same
abbrev cause_of : ℕ → Cause
cause_of n = cond (eqb n 21) Size (cond (eqb n 22) Range (cond (eqb n 23) Sections (cond (eqb n 24) BadTask (cond (eqb n 25) NoTaskOne BadInstruction))))

cause_of_number : (w : Cause) → cause_of (number_of w) ≡ w
cause_of_number Size = refl
cause_of_number Range = refl
cause_of_number Sections = refl
cause_of_number BadTask = refl
cause_of_number NoTaskOne = refl
cause_of_number BadInstruction = refl

abbrev Plain : Fault → Type 0
Plain f = f.layer ≡ layer_of f.cause

plain_is : (f : Fault) → Plain f → f ≡ fault f.cause f.place
plain_is f h = ap (λ (y : Layer). let r : Fault = record { cause = f.cause; place = f.place; layer = y } in r) h

same_place : (f g : Fault) → before f g ≡ false → before g f ≡ false → f.place ≡ g.place
same_place f g p q = grind (arith, nat_tests)

same_number : (f g : Fault) → before f g ≡ false → before g f ≡ false → number_of f.cause ≡ number_of g.cause
same_number f g p q = grind (arith, nat_tests)

same_fault : (f g : Fault) → Plain f → Plain g → before f g ≡ false → before g f ≡ false → f ≡ g
same_fault f g hf hg p q =
    let c : f.cause ≡ g.cause = sym (cause_of_number f.cause) ∙ (ap cause_of (same_number f g p q) ∙ cause_of_number g.cause) in
    let e : fault f.cause f.place ≡ fault g.cause g.place = ap (λ (w : Cause). fault w f.place) c ∙ ap (λ (n : ℕ). fault g.cause n) (same_place f g p q) in
    plain_is f hf ∙ (e ∙ sym (plain_is g hg))

plain_tests : (b : List ℕ) (l : Layout) (g : Fault) → Found g (tests b l) → Plain g
plain_tests b l =
    each_append Plain (size_tests b) (header_tests b l ++ row_tests b l) (each_of Plain (size_tests b) (refl, tt))
    (each_append Plain (header_tests b l) (row_tests b l) (each_of Plain (header_tests b l) (refl, (refl, (refl, (refl, (refl, (refl, tt)))))))
    (each_rows Plain b l (λ _. refl) (λ _. refl) (λ _. refl)))

only_one : (b : List ℕ) (f : Fault) (o : Option Fault) → Firsts (tests b (layout_of b)) f → Least (tests b (layout_of b)) o → Err f ≡ judged o (layout_of b)
only_one b f None h k = absurd (k f h.0)
only_one b f (Some g) h k =
    ap Err (same_fault f g (plain_tests b (layout_of b) f h.0) (plain_tests b (layout_of b) g k.0) (k.1 f h.0) (h.1 g k.0))

none_left : (b : List ℕ) (o : Option Fault) → Faultless (tests b (layout_of b)) → Least (tests b (layout_of b)) o → Ok (layout_of b) ≡ judged o (layout_of b)
none_left b None h k = refl
none_left b (Some g) h k = absurd (h g k.0)

pub verdict_err : (b : List ℕ) (r : Result Layout Fault) (y : Fault) → IsErrAnd r (λ x. x ≡ y) → Firsts (tests b (layout_of b)) y → r ≡ verdict b
unfolding told
verdict_err b (Ok l) y p h = absurd p
verdict_err b (Err x) y p h = ap Err p ∙ only_one b y (told b) h (first_least (tests b (layout_of b)))

pub verdict_ok : (b : List ℕ) (l : Layout) → l ≡ layout_of b → Faultless (tests b (layout_of b)) → Ok l ≡ verdict b
unfolding told
verdict_ok b l e h = ap Ok e ∙ none_left b (told b) h (first_least (tests b (layout_of b)))

-- what the verdict says of the faults
pub first_is_told : (b : List ℕ) (r : Result Layout Fault) → r ≡ verdict b → Tells (tests b (layout_of b)) r
unfolding told
first_is_told b r e =
    subst (λ (q : Result Layout Fault). Tells (tests b (layout_of b)) q) (sym e)
    (least_told (tests b (layout_of b)) (told b) (layout_of b) (first_least (tests b (layout_of b))))

pub only_told : (b : List ℕ) (r : Result Layout Fault) → r ≡ verdict b → OnlyTells (tests b (layout_of b)) r
unfolding told
only_told b r e f h = e ∙ sym (only_one b f (told b) h (first_least (tests b (layout_of b))))
