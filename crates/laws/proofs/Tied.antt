-- What ties a history to the state that it leads to, from power-up on over every call.
use Rattle.std.proofs.Common.{◌≡◌, ℕ, ◌+◌, ◌≤◌, Bool, true, false, cond, ◌||◌, eqb, List, [], ◌∷◌, ◌++◌, sym, refl, ap, ◌∙◌, ap₂, subst₂, arith}
use Rattle.std.specs.List.{flat_map}
use Rattle.sheet.specs.declared.event.Event.{Event}
use Rattle.table.specs.declared.timer.TimerPlace.{TimerPlace}
use Rattle.rules.specs.declared.answer.Answer.{Answer}
use Rattle.rules.specs.declared.call.Call.{Call}
use Rattle.rules.specs.State.{Setup, State, running as first}
use Rattle.rules.specs.Calls.{called, started}
use Rattle.laws.specs.Histories.{Seen, History, History.powered, History.then, Leads, Reached, Reached.on, Reached.by, events}
use Rattle.laws.specs.Asks.{Verb.chap, Verb.susp, Verb.rsum, asked, does_to, aborts}
use Rattle.laws.specs.Laws.{one, last_runs, running, level, held, Numbered}
use Rattle.laws.proofs.Delays.{Fits}
use Rattle.laws.proofs.Timers.{after, placed, places_of, places_after}
use Rattle.laws.proofs.Turns.{last_append}
use Rattle.laws.proofs.Steps.{Fit, saw}
use Rattle.laws.proofs.Calls.{steps}

pub record Tied (b : Setup) (h : History) (s : State) : Type 0 where
  pub fit : Fit b s (events h)
  pub runner : running h ≡ first s.tasks
  pub levels : (t : ℕ) → s.tasks.level t ≡ level b t h
  pub holds : (t : ℕ) → s.tasks.roll.held t ≡ held t h
  pub timers : s.timers ≡ places_of h []

begin : (b : Setup) → Numbered b → Tied b powered (started b)
begin b z = record {
  fit = record {
    kept = record {
      marks = λ t. elim (eqb 1 t) as (λ c. Fits (cond c (false ∷ []) []) 0) [ true ↦ (refl, tt) | false ↦ refl ];
      two = λ t. elim (eqb 1 t) as (λ c. cond c 1 0 ≤ 2) [ true ↦ omega arith | false ↦ omega arith ];
      levels = (refl, tt);
      above = (omega arith, tt);
      balance = λ t. elim (eqb 1 t) as (λ c. one c + 0 ≡ 0 + cond c 1 0) [ true ↦ refl | false ↦ refl ];
      order = refl;
      none = refl;
    };
    few = omega arith;
    book = z;
    untouched = λ t q. (refl, refl);
  };
  runner = refl;
  levels = λ t. refl;
  holds = λ t. refl;
  timers = refl;
}

next : (b : Setup) (h : History) (s : State) (c : Call) (room : ℕ) → Tied b h s → Tied b (then h (saw c room (called b s c room))) (called b s c room).state
next b h s c room t =
    let e = saw c room (called b s c room) in
    let k = steps b s room (events h) t.fit c in
    let l = k.leaves in
    record {
      fit = record { kept = l.kept; few = l.few; book = t.fit.book; untouched = l.untouched };
      runner = last_append 0 (events h) e.told ∙ ap (λ r. last_runs r e.told) t.runner ∙ k.runner;
      levels = λ u. l.levels u ∙ ap₂ (λ (r l : ℕ). cond (aborts r u e) (b.written u) (cond (does_to chap u e) (asked c).x l)) (sym t.runner) (t.levels u);
      holds = λ u. l.holds u ∙ ap₂ (λ (r : ℕ) (l : Bool). cond (aborts r u e || does_to rsum u e) false (does_to susp u e || l)) (sym t.runner) (t.holds u);
      timers = l.timers ∙ ap₂ (λ (a c : List TimerPlace). a ++ c) (ap (flat_map (after e)) t.timers ∙ sym (places_after h [] e)) (ap (λ r. placed r e []) (sym t.runner));
    }

-- what was seen is what comes back
pub seen_is : (b : Setup) (s t : State) (e : Seen) → Leads b s e t → saw e.call e.room (called b s e.call e.room) ≡ e
seen_is b s t e d = ap₂ (λ (a : Answer) (w : List Event). let r : Seen = record { call = e.call; room = e.room; answer = a; told = w } in r) (sym d.answer) (sym d.told)

pub tied : (b : Setup) → Numbered b → {h : History} {s : State} → Reached b h s → Tied b h s
tied b z on = begin b z
tied b z (by {h = h} {s = s} {t = t} {e = e} r d) =
    subst₂ (λ (g : Seen) (u : State). Tied b (then h g) u) (seen_is b s t e d) (sym d.state) (next b h s e.call e.room (tied b z r))
