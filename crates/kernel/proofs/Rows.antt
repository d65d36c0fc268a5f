-- What a station reads from its book, task by task.
use Rattle.std.proofs.Common.{◌≡◌, ℕ, ◌+◌, ◌<◌, ◌≤◌, Bool, true, List, length, get_or, set, is_some, Some, None, Option, sym, refl, ap, ◌∙◌, inl, inr, arith}
use Rattle.std.specs.Prelude.{unwrap_or}
use mathlib.Core.Path.{fun_ext}
use Rattle.std.proofs.lemmas.List.{get_or-set_same, get_or-set_other, get_or_past}
use Rattle.std.proofs.lemmas.Bool.{cases_lt, cases_eq}
use Rattle.book.specs.declared.sections.TaskRow.{TaskRow}
use Rattle.book.specs.Verdict.{told, clean}
use Rattle.book.specs.Reader.{task_in, registered_in, level_in, level_of}
use Rattle.book.proofs.Clean.{task_fits}
use Rattle.kernel.specs.Views.{level_in_row, row_in}

module _ {A : Type 0} where
  -- the table xs has the values of f at the places below n
  abbrev pub Agrees : List A → A → (ℕ → A) → ℕ → Type 0
  Agrees xs d f n = (k : ℕ) → k < n → get_or xs k d ≡ f k

  pub agrees_more : (xs : List A) (d : A) (f : ℕ → A) (n : ℕ) (v : A) → n < length xs → v ≡ f n → Agrees xs d f n → Agrees (set xs n v) d f (n + 1)
  agrees_more xs d f n v lt e h k lk =
      elim (cases_eq k n) [
        | inl p ↦ rw p (get_or-set_same xs n v d lt ∙ e)
        | inr q ↦ get_or-set_other xs n k v d q ∙ h k (omega arith)
      ]

  -- and past them f is the default
  pub agrees_at : (xs : List A) (d : A) (f : ℕ → A) (n : ℕ) → length xs ≡ n → Agrees xs d f n → ((k : ℕ) → n ≤ k → f k ≡ d) → (k : ℕ) → get_or xs k d ≡ f k
  agrees_at xs d f n long h past k =
      elim (cases_lt k n) [
        | inl lt ↦ h k lt
        | inr ge ↦ get_or_past xs k d (omega arith) ∙ sym (past k ge)
      ]

-- a book has no task above 127, and none with the number 0
no_row : (b : List ℕ) (t : ℕ) (o : Option TaskRow) → clean (told b) ≡ true → ((1 ≤ t) × (t ≤ 127) → ⊥) → task_in b t ≡ o → level_in_row o ≡ None
no_row b t None s out e = refl
no_row b t (Some r) s out e = let h = task_fits b t r s e in absurd (out (h.low, h.high))

pub row_past : (b : List ℕ) → clean (told b) ≡ true → (t : ℕ) → 128 ≤ t → row_in b t ≡ None
row_past b s t ge = no_row b t (task_in b t) s (λ h. let high = h.1 in omega arith) refl

pub row_zero : (b : List ℕ) → clean (told b) ≡ true → row_in b 0 ≡ None
row_zero b s = no_row b 0 (task_in b 0) s (λ h. let low = h.0 in omega arith) refl

registered_row : (o : Option TaskRow) → is_some (level_in_row o) ≡ is_some o
registered_row None = refl
registered_row (Some r) = refl

written_row : (o : Option TaskRow) → unwrap_or (level_in_row o) 0 ≡ level_of o
written_row None = refl
written_row (Some r) = refl

-- rows that are those of the book say what the book says
pub rows_registered : (b : List ℕ) (f : ℕ → Option ℕ) → ((t : ℕ) → f t ≡ row_in b t) → ◌≡◌ {A = ℕ → Bool} (λ t. is_some (f t)) (registered_in b)
rows_registered b f e = fun_ext (λ t. ap is_some (e t) ∙ registered_row (task_in b t))

pub rows_written : (b : List ℕ) (f : ℕ → Option ℕ) → ((t : ℕ) → f t ≡ row_in b t) → ◌≡◌ {A = ℕ → ℕ} (λ t. unwrap_or (f t) 0) (level_in b)
rows_written b f e = fun_ext (λ t. ap (λ (o : Option ℕ). unwrap_or o 0) (e t) ∙ written_row (task_in b t))
