-- The laws hold of every history, and each call carries them on.
use Rattle.std.proofs.Common.{◌≡◌, ℕ, List, [], ◌∷◌, ◌++◌, take, Option, sym, refl, ap, ◌∙◌, subst, ap₂}
use Rattle.roll.specs.Model.{first_in}
use Rattle.std.proofs.lemmas.List.{take_at}
use Rattle.sheet.specs.declared.event.Event.{Event}
use Rattle.rules.specs.declared.answer.Answer.{Answer}
use Rattle.rules.specs.declared.call.Call.{Call}
use Rattle.rules.specs.State.{Setup, State, Station}
use Rattle.rules.specs.Calls.{started, Performed}
use Rattle.laws.specs.Histories.{Seen, seen, History, History.powered, History.then, Leads, Reached, Reached.on, Reached.by}
use Rattle.laws.specs.Laws.{Full, Numbered, Always}
use Rattle.laws.specs.Runs.{Lawful, Named, Ran}
use Rattle.laws.proofs.Tied.{tied, seen_is}
use Rattle.laws.proofs.Choice.{choice, first_named}
use Rattle.laws.proofs.Full.{full_next}

full : (b : Setup) → Numbered b → {h : History} {s : State} → Reached b h s → Full b h
full b z on = tt
full b z (by {h = h} {s = s} {t = t} {e = e} r d) = subst (λ (g : Seen). Full b (then h g)) (seen_is b s t e d) (full_next b h s e.call e.room (tied b z r))

pub always : (b : Setup) → Numbered b → Always b
always b z h s r =
    let t = tied b z r in
    record {
      balance = t.fit.kept.balance;
      two = t.fit.kept.two;
      answers = first_named b h s t;
      chosen = choice b h s t;
      full = full b z r;
    }

-- ---- one call
pub leads : (before after : Station) (c : Call) (given : List Event) (a : Answer) (left : List Event) → Performed before c given after a left → Leads before.setup before.state (seen c given a left) after.state
leads before after c given a left p = record {
  state = p.state;
  answer = p.answer;
  told = ap₂ (λ (x : Answer) (l : List Event). take x.told l) p.answer p.sheet ∙ take_at _ _ _ refl;
}

pub carried : (before after : Station) (c : Call) (given : List Event) (a : Answer) (left : List Event) → Numbered before.setup → Performed before c given after a left → Lawful before.setup before.state (seen c given a left) after.state
carried before after c given a left z p =
    let d = leads before after c given a left p in
    record {
      goes = λ h r. by r d;
      laws = λ h r. always before.setup z (then h (seen c given a left)) after.state (by r d);
    }

-- ---- who has the processor
pub named : (b : Setup) (s : State) (r : Option ℕ) → Numbered b → r ≡ first_in s.tasks.roll → Named b s r
named b s r z e = record {
  last = λ h reached. e ∙ (always b z h s reached).answers;
  best = λ h reached. (always b z h s reached).chosen;
}

-- ---- a list of calls
pub ran_none : (b : Setup) → Numbered b → Ran b [] [] (started b)
ran_none b z = record { history = powered; reached = on; made = refl; answered = refl; laws = always b z powered (started b) on }

pub ran_more : (before after : Station) (c : Call) (given : List Event) (a : Answer) (left : List Event) (asked : List Call) (answers : List Answer) → Numbered before.setup
    → Ran before.setup asked answers before.state → Performed before c given after a left → Ran after.setup (asked ++ (c ∷ [])) (answers ++ (a ∷ [])) after.state
ran_more before after c given a left asked answers z r p =
    subst (λ (b : Setup). Ran b (asked ++ (c ∷ [])) (answers ++ (a ∷ [])) after.state) (sym p.setup)
    (let d = leads before after c given a left p in
    record {
      history = then r.history (seen c given a left);
      reached = by r.reached d;
      made = ap (λ (l : List Call). l ++ (c ∷ [])) r.made;
      answered = ap (λ (l : List Answer). l ++ (a ∷ [])) r.answered;
      laws = always before.setup z (then r.history (seen c given a left)) after.state (by r.reached d);
    })
