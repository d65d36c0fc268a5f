-- The tasks that a station has read from its book are numbered 1 to 127.
use Rattle.std.proofs.Common.{◌≡◌, ℕ, ◌≤◌, true, get_or, is_some, None, ap, ◌∙◌, inl, inr, arith}
use Rattle.std.proofs.lemmas.Bool.{both_ways, cases_eq, cases_lt}
use Rattle.std.proofs.lemmas.List.{get_or_past}
use Rattle.kernel.specs.declared.setup.Setup.{Setup}
use Rattle.kernel.specs.Views.{registered_by}

pub numbered : (s : Setup) (t : ℕ) → registered_by s t ≡ true → (1 ≤ t) × (t ≤ 127)
numbered s t e =
    elim (cases_eq t 0) [
      | inl z ↦ absurd (both_ways _ (ap (λ k. is_some (get_or s.rows k None)) z ∙ ap is_some s.nobody) e)
      | inr n ↦ elim (cases_lt t 128) [
        | inl lt ↦ (omega (arith, n), omega arith)
        | inr ge ↦ absurd (both_ways _ (ap is_some (get_or_past s.rows t None (omega (arith, s.sized)))) e)
      ]
    ]
