-- What a call hands on of the laws, and what one that makes a list of calls does.
use Rattle.std.specs.Prelude.{◌≡◌, ℕ, List, Option}
use Rattle.rules.specs.declared.answer.Answer.{Answer}
use Rattle.rules.specs.declared.call.Call.{Call}
use Rattle.rules.specs.State.{Setup, State}
use Rattle.laws.specs.Histories.{Seen, History, History.then, Reached, calls, answers}
use Rattle.laws.specs.Laws.{running, Chosen, holder, Laws}

-- Whatever was asked before: the history goes on over the call e to the state t, and the laws hold of it.
pub record Lawful (b : Setup) (s : State) (e : Seen) (t : State) : Type 0 where
  pub goes : (h : History) → Reached b h s → Reached b (then h e) t
  pub laws : (h : History) → Reached b h s → Laws b (then h e) t

-- Whatever was asked before: the task r is the one that the last `runs` named, and the best of those that are ready; and
-- where there is no r, `runs` named none and none is ready.
pub record Named (b : Setup) (s : State) (r : Option ℕ) : Type 0 where
  pub last : (h : History) → Reached b h s → r ≡ holder (running h)
  pub best : (h : History) → Reached b h s → Chosen b h (running h)

-- These calls were made from power-up on, each once and in their order, each was answered so, and they led to the state s.
pub record Ran (b : Setup) (asked : List Call) (given : List Answer) (s : State) : Type 0 where
  pub history : History
  pub reached : Reached b history s
  pub made : calls history ≡ asked
  pub answered : answers history ≡ given
  pub laws : Laws b history s
