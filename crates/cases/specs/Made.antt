-- Histories that the rules make of a list of calls.
use Rattle.std.specs.Prelude.{ℕ, true, ◌&&◌, List, [], ◌∷◌, length, nat_le}
use Rattle.rules.specs.declared.call.Call.{Call}
use Rattle.rules.specs.State.{Setup, State}
use Rattle.rules.specs.Calls.{called, started}
use Rattle.laws.specs.Histories.{Seen, History, History.powered, History.then}

-- the tasks 1 to 4 are registered, all with the written level l, and there is a lever
abbrev pub alike : ℕ → Setup
alike l = record { registered = λ t. nat_le 1 t && nat_le t 4; written = λ _. l; lever = true }

-- what is seen of a call with a sheet of 100 records
abbrev pub comes : Setup → State → Call → Seen
comes b s c = record {
  call = c;
  room = 100;
  answer = record { code = (called b s c 100).code; told = length (called b s c 100).told; factor = (called b s c 100).factor };
  told = (called b s c 100).told;
}

-- calls one after the other, from a history and the state that it leads to
abbrev pub history_from : Setup → History → State → List Call → History
history_from b h s [] = h
history_from b h s (c ∷ cs) = history_from b (then h (comes b s c)) (called b s c 100).state cs

abbrev pub state_from : Setup → State → List Call → State
state_from b s [] = s
state_from b s (c ∷ cs) = state_from b (called b s c 100).state cs

-- calls one after the other, from power-up on
abbrev pub made : Setup → List Call → History
made b cs = history_from b powered (started b) cs

abbrev pub made_state : Setup → List Call → State
made_state b cs = state_from b (started b) cs
