use Rattle.std.proofs.Common.{◌≡◌, Bool, true, false, cond, eqb, Ok, Err, OnErr, Result, refl, sym, ◌∙◌}
use Rattle.std.proofs.lemmas.Bool.{eqb-true}
use Rattle.rules.specs.declared.answer.Code.{Code}
use Rattle.kernel.proofs.Settled.{none_taken}
use Rattle.kernel.proofs.kernel.timing.cancel.Goals as goal

abbrev outcome : Code → Bool → Result (Unit {0}) Code
outcome k b = cond b (Err k) (Ok tt)

on_cause : (k : Code) (b : Bool) (P : Type 0) → (b ≡ true → P) → OnErr (outcome k b) P
on_cause k true P f = f refl
on_cause k false P f = tt

pub returns-clause-same : goal.returns-clause-same
returns-clause-same g c = rw c.check.ensures (on_cause _ (eqb c.remove-removed.result 0) _ (λ e. c.remove-removed.ensures.entries ∙ none_taken _ _ (sym c.remove-removed.ensures.count ∙ eqb-true _ 0 e)))
