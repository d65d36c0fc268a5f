-- What a set of factors means.
use Rattle.std.specs.Prelude.{ℕ, Bool, ◌==◌}
use Rattle.std.specs.Int.{bit_at}
use Rattle.tasks.specs.declared.factor_set.FactorSet.{FactorSet}

-- whether the factor x is in the set
abbrev pub members : FactorSet → ℕ → Bool
members s x = bit_at s.bits x == 1
