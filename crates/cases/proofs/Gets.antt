-- The issuer takes its factors one by one.
use Rattle.std.proofs.Common.{◌≡◌, ℕ, Bool, false, ◌||◌, eqb, [], Some, None, Option, refl, ap, ◌∙◌}
use mathlib.Core.Path.{fun_ext}
use Rattle.roll.specs.Tables.{put}
use Rattle.roll.proofs.Tables.{put_same}
use Rattle.rules.specs.declared.answer.Code.TheVariants.{Done}
use Rattle.rules.specs.declared.call.Macro.TheVariants.{Gfact}
use Rattle.rules.specs.State.{Setup, State}
use Rattle.rules.specs.Effects.{Effect, in_tasks, smallest, factor_or, without, smallest_of, taking}
use Rattle.rules.specs.Refusals.{Step, settled}
use Rattle.cases.specs.Edges.{number, issued, Issuer, Factors}
use Rattle.cases.proofs.Walks.{own_checks}

-- the factor o, if there is one, is taken from r
abbrev takes : State → ℕ → Option ℕ → Effect
takes s r o = record { state = in_tasks s (without s.tasks r o); told = []; over = false; factor = factor_or o }

abbrev taken : State → ℕ → ℕ → State
taken s r x = (takes s r (Some x)).state

gets_is : (b : Setup) (s : State) (r room : ℕ) (o : Option ℕ) → Issuer s r room → smallest_of s.tasks r ≡ o → issued b room s Gfact ≡ settled s Done (takes s r o)
gets_is b s r room o i h = own_checks b s r room i Gfact refl ∙ ap (λ q. settled s Done (taking s q)) i.first ∙ ap (λ (p : Option ℕ). settled s Done (takes s r p)) h

still : (s : State) (r x room : ℕ) → Issuer s r room → Issuer (taken s r x) r room
still s r x room i = record { task = i.task; first = i.first; sheet = i.sheet }

abbrev both : ℕ → Bool
both x = eqb x 3 || eqb x 5

first_is : smallest 17 0 both ≡ Some 3
unfolding smallest
first_is = refl

second_is : smallest 17 0 (put both 3 false) ≡ Some 5
unfolding smallest
second_is = refl

third_is : smallest 17 0 (put (put both 3 false) 5 false) ≡ None
unfolding smallest
third_is = refl

pub gets : (b : Setup) (s : State) (r room : ℕ) → Issuer s r room → ((x : ℕ) → s.tasks.factors r x ≡ (eqb x 3 || eqb x 5)) → Factors b s room
gets b s r room i h = record {
  answers = (ap number e1, ap (λ (k : Step). number (issued b room k.state Gfact)) e1 ∙ ap number e2, ap (λ (k : Step). number (issued b room (issued b room k.state Gfact).state Gfact)) e1 ∙ ap (λ (k : Step). number (issued b room k.state Gfact)) e2 ∙ ap number e3);
  first = ap (λ (k : Step). k.factor) e1;
  second = ap (λ (k : Step). (issued b room k.state Gfact).factor) e1 ∙ ap (λ (k : Step). k.factor) e2;
  third = ap (λ (k : Step). (issued b room (issued b room k.state Gfact).state Gfact).factor) e1 ∙ ap (λ (k : Step). (issued b room k.state Gfact).factor) e2 ∙ ap (λ (k : Step). k.factor) e3;
}
  where
    f0 : s.tasks.factors r ≡ both
    f0 = fun_ext h

    f1 : (taken s r 3).tasks.factors r ≡ put both 3 false
    f1 = put_same s.tasks.factors r (put (s.tasks.factors r) 3 false) ∙ ap (λ (f : ℕ → Bool). put f 3 false) f0

    f2 : (taken (taken s r 3) r 5).tasks.factors r ≡ put (put both 3 false) 5 false
    f2 = put_same (taken s r 3).tasks.factors r (put ((taken s r 3).tasks.factors r) 5 false) ∙ ap (λ (f : ℕ → Bool). put f 5 false) f1

    e1 : issued b room s Gfact ≡ settled s Done (takes s r (Some 3))
    e1 = gets_is b s r room (Some 3) i (ap (smallest 17 0) f0 ∙ first_is)

    e2 : issued b room (taken s r 3) Gfact ≡ settled (taken s r 3) Done (takes (taken s r 3) r (Some 5))
    e2 = gets_is b (taken s r 3) r room (Some 5) (still s r 3 room i) (ap (smallest 17 0) f1 ∙ second_is)

    e3 : issued b room (taken (taken s r 3) r 5) Gfact ≡ settled (taken (taken s r 3) r 5) Done (takes (taken (taken s r 3) r 5) r None)
    e3 = gets_is b (taken (taken s r 3) r 5) r room None (still (taken s r 3) r 5 room (still s r 3 room i)) (ap (smallest 17 0) f2 ∙ third_is)
