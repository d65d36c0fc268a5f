-- What a record that is written makes of the table.
use Rattle.std.proofs.Common.{◌≡◌, ℕ, ◌<◌, Bool, true, false, cond, eqb, List, length, get_or, set, sym, refl, ap, ◌∙◌, inl, inr, arith}
use mathlib.Core.Path.{fun_ext}
use Rattle.std.proofs.lemmas.Bool.{cases_lt}
use Rattle.std.proofs.lemmas.List.{get_or_default, get_or_past}
use Rattle.roll.specs.Tables.{put, none}
use Rattle.roll.specs.Model.{Model}
use Rattle.roll.proofs.Tables.{put_kept, table_put}
use Rattle.rules.specs.State.{Tasks}
use Rattle.tasks.specs.Factors.{members}
use Rattle.tasks.specs.Views.{view, blank}
use Rattle.tasks.proofs.Factors.{set_bits-zero}
use Rattle.tasks.specs.declared.task_table.TaskRecord.{TaskRecord}

abbrev pub tasks_of : (ℕ → Bool) → (ℕ → ℕ) → (ℕ → ℕ → Bool) → Model → Tasks
tasks_of r l f m = record { released = r; level = l; factors = f; roll = m }

pub same_tasks : {r r' : ℕ → Bool} {l l' : ℕ → ℕ} {f f' : ℕ → ℕ → Bool} {m m' : Model} → r ≡ r' → l ≡ l' → f ≡ f' → m ≡ m' → tasks_of r l f m ≡ tasks_of r' l' f' m'
same_tasks {r} {r'} {l} {l'} {f} {f'} {m} {m'} a b c d =
    ap (λ (x : ℕ → Bool). tasks_of x l f m) a ∙ ap (λ (x : ℕ → ℕ). tasks_of r' x f m) b ∙ ap (λ (x : ℕ → ℕ → Bool). tasks_of r' l' x m) c ∙ ap (λ (x : Model). tasks_of r' l' f' x) d

-- a field of the records, by the task
abbrev pub column : {B : Type 0} → (TaskRecord → B) → List TaskRecord → ℕ → B
column g xs u = g (get_or xs u blank)

abbrev pub modes : List TaskRecord → ℕ → Bool
modes xs = column (λ x. x.released) xs

abbrev pub levels : List TaskRecord → ℕ → ℕ
levels xs = column (λ x. x.level) xs

abbrev pub factors : List TaskRecord → ℕ → ℕ → Bool
factors xs = column (λ x. members x.factors) xs

pub column_put : {B : Type 0} (g : TaskRecord → B) (xs : List TaskRecord) (t : ℕ) (r : TaskRecord) → t < length xs → column g (set xs t r) ≡ put (column g xs) t (g r)
column_put {B} g xs t r lt = ap (λ (f : ℕ → TaskRecord). λ u. g (f u)) (table_put xs t r blank lt) ∙ fun_ext (λ u. push (eqb t u) (get_or xs u blank))
  where
    push : (b : Bool) (x : TaskRecord) → g (cond b r x) ≡ cond b (g r) (g x)
    push true x = refl
    push false x = refl

-- the record of one task is written
pub records_put : {R : Type 0} (meaning : R → Model) (roll : R) (xs : List TaskRecord) (t : ℕ) (r : TaskRecord) (a : Bool) (l : ℕ) (f : ℕ → Bool) (m : Model) →
    t < length xs → r.released ≡ a → r.level ≡ l → members r.factors ≡ f → meaning roll ≡ m →
    view meaning (record { roll = roll; records = set xs t r }) ≡ tasks_of (put (modes xs) t a) (put (levels xs) t l) (put (factors xs) t f) m
records_put meaning roll xs t r a l f m lt p q e h =
    same_tasks
    (column_put (λ x. x.released) xs t r lt ∙ ap (put (modes xs) t) p)
    (column_put (λ x. x.level) xs t r lt ∙ ap (put (levels xs) t) q)
    (column_put (λ x. members x.factors) xs t r lt ∙ ap (put (factors xs) t) e)
    h

-- one factor alone is set or cleared
pub factor_put : {R : Type 0} (meaning : R → Model) (roll : R) (xs : List TaskRecord) (t : ℕ) (r d : TaskRecord) (x : ℕ) (b : Bool) →
    t < length xs → r.released ≡ (get_or xs t d).released → r.level ≡ (get_or xs t d).level → members r.factors ≡ put (members (get_or xs t d).factors) x b →
    view meaning (record { roll = roll; records = set xs t r }) ≡ tasks_of (modes xs) (levels xs) (put (factors xs) t (put (factors xs t) x b)) (meaning roll)
factor_put meaning roll xs t r d x b lt p q e =
    let k = get_or_default xs t d blank lt in
    records_put meaning roll xs t r (modes xs t) (levels xs t) (put (factors xs t) x b) (meaning roll) lt
    (p ∙ ap (λ (y : TaskRecord). y.released) k)
    (q ∙ ap (λ (y : TaskRecord). y.level) k)
    (e ∙ ap (λ (y : TaskRecord). put (members y.factors) x b) k)
    refl
    ∙ same_tasks (put_kept (modes xs) t (modes xs t) refl) (put_kept (levels xs) t (levels xs t) refl) refl refl

-- at power-up each record is dormant, and then task 1 is released
module _ (ys : List TaskRecord) (ls : List ℕ) (n : ℕ) (ly : length ys ≡ n) (ll : length ls ≡ n)
    (dormant : (i : ℕ) → i < n → ((get_or ys i blank).released ≡ false) × ((get_or ys i blank).level ≡ get_or ls i 0) × (members (get_or ys i blank).factors ≡ none)) where
  no_modes : modes ys ≡ none
  no_modes = fun_ext (λ t. elim (cases_lt t n) [ inl lt ↦ (dormant t lt).0 | inr ge ↦ ap (λ (y : TaskRecord). y.released) (get_or_past ys t blank (omega (arith, ly))) ])

  same_levels : levels ys ≡ (λ t. get_or ls t 0)
  same_levels =
      fun_ext (λ t. elim (cases_lt t n) [
        | inl lt ↦ (dormant t lt).1
        | inr ge ↦ ap (λ (y : TaskRecord). y.level) (get_or_past ys t blank (omega (arith, ly))) ∙ sym (get_or_past ls t 0 (omega (arith, ll)))
      ])

  no_factors : factors ys ≡ (λ t. none)
  no_factors =
      fun_ext (λ t. elim (cases_lt t n) [
        | inl lt ↦ (dormant t lt).2
        | inr ge ↦ ap (λ (y : TaskRecord). members y.factors) (get_or_past ys t blank (omega (arith, ly))) ∙ set_bits-zero
      ])

  first_released : put none 1 true ≡ (λ t. eqb 1 t)
  first_released = fun_ext (λ t. elim (eqb 1 t) as (λ b. cond b true false ≡ b) [ true ↦ refl | false ↦ refl ])

  pub powered : {R : Type 0} (meaning : R → Model) (roll : R) (r d : TaskRecord) (m : Model) →
      1 < n → r.released ≡ true → r.level ≡ (get_or ys 1 d).level → r.factors ≡ (get_or ys 1 d).factors → meaning roll ≡ m →
      view meaning (record { roll = roll; records = set ys 1 r }) ≡ tasks_of (λ t. eqb 1 t) (λ t. get_or ls t 0) (λ t. none) m
  powered meaning roll r d m lt p q e h =
      let lo : 1 < length ys = omega (arith, ly) in
      let k = get_or_default ys 1 d blank lo in
      records_put meaning roll ys 1 r true (levels ys 1) (factors ys 1) m lo p
      (q ∙ ap (λ (y : TaskRecord). y.level) k)
      (ap members e ∙ ap (λ (y : TaskRecord). members y.factors) k)
      h
      ∙ same_tasks
      (ap (λ (f : ℕ → Bool). put f 1 true) no_modes ∙ first_released)
      (put_kept (levels ys) 1 (levels ys 1) refl ∙ same_levels)
      (put_kept (factors ys) 1 (factors ys 1) refl ∙ no_factors)
      refl
