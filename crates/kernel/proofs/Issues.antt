-- The checks that are common to all macros.
use Rattle.std.proofs.Common.{◌≡◌, ℕ, ◌≤◌, true, false, not, eqb, List, ◌∷◌, Ok, Err, Some, Option, Result, sym, ap, ◌∙◌, subst, arith}
use Rattle.std.proofs.lemmas.Bool.{cond-true, cond-false}
use Rattle.std.proofs.lemmas.Bool.Decides.{nat_tests}
use Rattle.sheet.specs.declared.event.Event.{Event}
use Rattle.roll.specs.Model.{Model, Sound, first_in}
use Rattle.roll.proofs.Firsts.{first_below}
use Rattle.rules.specs.declared.answer.Code.TheVariants.{Done, Idle, FieldRange}
use Rattle.rules.specs.declared.answer.Answer.{Answer}
use Rattle.rules.specs.declared.call.Call.TheVariants.{Macro as Issued}
use Rattle.rules.specs.declared.call.Macro.{Macro}
use Rattle.rules.specs.State.{Station, numbered, running}
use Rattle.rules.specs.Fields.{in_range}
use Rattle.rules.specs.Effects.{cutting, obeyed}
use Rattle.rules.specs.Refusals.{Step, settled, refused, bad_field, macro_checks}
use Rattle.rules.specs.Calls.{answered, Comes}
use Rattle.kernel.specs.declared.effect.Effect.{Effect as Made}
use Rattle.kernel.specs.Obeys.{Obeys, Works, worked}

not_idle : (r : ℕ) → 1 ≤ r → eqb r 0 ≡ false
not_idle r h = grind (arith, nat_tests)

-- the first task of a roll, when it was asked for; its number is at least 1
pub had_by : (m : Model) (o : Option ℕ) (t : ℕ) → o ≡ Some t → o ≡ first_in m → Some t ≡ first_in m
had_by m o t e f = sym e ∙ f

pub numbered_by : (m : Model) (r : ℕ) → Sound m → Some r ≡ first_in m → 1 ≤ r
numbered_by m r s e = (first_below m.held m.entries r s.0.0 (sym e)).0

-- a macro of the task r, which has the processor
module _ (before : Station) (m : Macro) (r : ℕ) (had : Some r ≡ first_in before.state.tasks.roll) (numbers : 1 ≤ r) where
  it_runs : r ≡ running before.state.tasks
  it_runs = ap numbered had

  past_idle : answered (bad_field before.setup before.state m ∷ macro_checks before.setup before.state m) (settled before.state Done (obeyed before.setup before.state (running before.state.tasks) m)) ≡ worked before.setup before.state (Issued m)
  past_idle =
      sym (cond-false (eqb (running before.state.tasks) 0) (refused before.state Idle)
      (answered (bad_field before.setup before.state m ∷ macro_checks before.setup before.state m) (settled before.state Done (obeyed before.setup before.state (running before.state.tasks) m)))
      (ap (λ (x : ℕ). eqb x 0) (sym it_runs) ∙ not_idle r numbers))

  pub issue_cut : in_range m ≡ false → settled before.state FieldRange (cutting before.setup before.state r r) ≡ worked before.setup before.state (Issued m)
  issue_cut e =
      ap (λ (x : ℕ). settled before.state FieldRange (cutting before.setup before.state x x)) it_runs
      ∙ sym (cond-true (not (in_range m)) (settled before.state FieldRange (cutting before.setup before.state (running before.state.tasks) (running before.state.tasks)))
      (answered (macro_checks before.setup before.state m) (settled before.state Done (obeyed before.setup before.state (running before.state.tasks) m))) (ap not e))
      ∙ past_idle

  issue_obeyed : in_range m ≡ true → answered (macro_checks before.setup before.state m) (settled before.state Done (obeyed before.setup before.state r m)) ≡ worked before.setup before.state (Issued m)
  issue_obeyed e =
      ap (λ (x : ℕ). answered (macro_checks before.setup before.state m) (settled before.state Done (obeyed before.setup before.state x m))) it_runs
      ∙ sym (cond-false (not (in_range m)) (settled before.state FieldRange (cutting before.setup before.state (running before.state.tasks) (running before.state.tasks)))
      (answered (macro_checks before.setup before.state m) (settled before.state Done (obeyed before.setup before.state (running before.state.tasks) m))) (ap not e))
      ∙ past_idle

  pub issue_works : (given left : List Event) (after : Station) → in_range m ≡ true → (o : Result Made Answer) → Obeys before r m given after o left → Works before (Issued m) given after o left
  issue_works given left after e (Ok made) h = (Done, obeyed before.setup before.state r m, h.0 ∙ issue_obeyed e, h.1)
  issue_works given left after e (Err a) h = subst (λ (k : Step). Comes k before given after a left) (issue_obeyed e) h
