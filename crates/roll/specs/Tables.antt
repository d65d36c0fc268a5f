-- Tables seen as functions of the place.
use Rattle.std.specs.Prelude.{ℕ, Bool, false, cond, ◌==◌}

-- f with v at the place t, and unchanged elsewhere
abbrev pub put : {A : Type 0} → (ℕ → A) → ℕ → A → ℕ → A
put f t v u = cond (t == u) v (f u)

-- the set that has nobody in it
abbrev pub none : ℕ → Bool
none _ = false
