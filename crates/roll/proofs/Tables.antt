-- A table of a fixed length, seen as a function of the place.
use Rattle.std.proofs.Common.{◌≡◌, ℕ, ◌<◌, List, length, get_or, set, sym, refl, ap, ◌∙◌, inl, inr}
use mathlib.Core.Path.{fun_ext}
use Rattle.std.proofs.lemmas.List.{get_or-set_same, get_or-set_other}
use Rattle.std.proofs.lemmas.Bool.{cases_eq, eq-eqb, ne_eqb}
use Rattle.roll.specs.Tables.{put}

module _ {A : Type 0} where
  pub put_same : (f : ℕ → A) (t : ℕ) (v : A) → put f t v t ≡ v
  put_same f t v = rw (eq-eqb t t refl)

  pub put_other : (f : ℕ → A) (t u : ℕ) (v : A) → (t ≡ u → ⊥) → put f t v u ≡ f u
  put_other f t u v n = rw (ne_eqb t u n)

  -- to put there what there is changes nothing
  pub put_kept : (f : ℕ → A) (t : ℕ) (v : A) → f t ≡ v → put f t v ≡ f
  put_kept f t v p = fun_ext at
    where
      at : (u : ℕ) → put f t v u ≡ f u
      at u =
          elim (cases_eq t u) [
            | inl e ↦ let a = eq-eqb t u e in rw a (sym p ∙ ap f e)
            | inr n ↦ put_other f t u v n
          ]

  -- a write to the table is a write to the function
  pub table_put : (xs : List A) (t : ℕ) (v d : A) → t < length xs → ◌≡◌ {A = ℕ → A} (λ u. get_or (set xs t v) u d) (put (λ u. get_or xs u d) t v)
  table_put xs t v d lt = fun_ext at
    where
      at : (u : ℕ) → get_or (set xs t v) u d ≡ put (λ w. get_or xs w d) t v u
      at u =
          elim (cases_eq t u) [
            | inl e ↦ let a = eq-eqb t u e in rw (a, ← e) (get_or-set_same xs t v d lt)
            | inr n ↦ let a = ne_eqb t u n in rw a (get_or-set_other xs t u v d (λ q. n (sym q)))
          ]
