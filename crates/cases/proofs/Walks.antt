-- Past the causes of refusal that do not apply.
use Rattle.std.proofs.Common.{◌≡◌, ℕ, true, false, List, ◌∷◌, ◌∙◌, arith}
use Rattle.std.proofs.lemmas.Bool.{cond-true, cond-false, le-ltb, ne_eqb, not_from_true, not_from_false}
use Rattle.rules.specs.declared.answer.Code.TheVariants.{Done, FieldRange}
use Rattle.rules.specs.declared.call.Call.TheVariants.{Macro as Issues}
use Rattle.rules.specs.declared.call.Macro.{Macro}
use Rattle.rules.specs.State.{Setup, State, running}
use Rattle.rules.specs.Fields.{in_range}
use Rattle.rules.specs.Effects.{obeyed, cutting}
use Rattle.rules.specs.Refusals.{Step, Check, settled, short, idle, bad_field, macro_checks}
use Rattle.rules.specs.Calls.{answered, called}
use Rattle.cases.specs.Edges.{Issuer}

module _ (c : Check) (cs : List Check) (done : Step) where
  pub passes : c.applies ≡ false → answered (c ∷ cs) done ≡ answered cs done
  passes h = cond-false c.applies c.back (answered cs done) h

  pub stops : c.applies ≡ true → answered (c ∷ cs) done ≡ c.back
  stops h = cond-true c.applies c.back (answered cs done) h

module _ (b : Setup) (s : State) (r room : ℕ) (i : Issuer s r room) (m : Macro) where
  fields : called b s (Issues m) room ≡ answered (bad_field b s m ∷ macro_checks b s m) (settled s Done (obeyed b s (running s.tasks) m))
  fields =
      passes (short b s room) (idle b s ∷ (bad_field b s m ∷ macro_checks b s m)) (settled s Done (obeyed b s (running s.tasks) m)) (le-ltb room 100 i.sheet)
      ∙ passes (idle b s) (bad_field b s m ∷ macro_checks b s m) (settled s Done (obeyed b s (running s.tasks) m)) (ne_eqb (running s.tasks) 0 (λ z. (let p = i.task in let q = i.first in let k : ⊥ = omega arith in k)))

  -- with its fields in range, a macro comes to the checks of its own
  pub own_checks : in_range m ≡ true → called b s (Issues m) room ≡ answered (macro_checks b s m) (settled s Done (obeyed b s (running s.tasks) m))
  own_checks h = fields ∙ passes (bad_field b s m) (macro_checks b s m) (settled s Done (obeyed b s (running s.tasks) m)) (not_from_true (in_range m) h)

  -- and with a field out of range, it cuts its issuer
  pub at_bad_field : in_range m ≡ false → called b s (Issues m) room ≡ settled s FieldRange (cutting b s (running s.tasks) (running s.tasks))
  at_bad_field h = fields ∙ stops (bad_field b s m) (macro_checks b s m) (settled s Done (obeyed b s (running s.tasks) m)) (not_from_false (in_range m) h)
