-- Histories: what was asked of a station and what it told since power-up, and which of them the rules can produce.
use Rattle.std.specs.Prelude.{◌≡◌, ℕ, List, [], ◌∷◌, ◌++◌, length, take}
use Rattle.sheet.specs.declared.event.Event.{Event}
use Rattle.sheet.specs.declared.event.Kind.TheVariants.{Accepted, Runs}
use Rattle.sheet.specs.Events.{event}
use Rattle.rules.specs.declared.answer.Answer.{Answer}
use Rattle.rules.specs.declared.call.Call.{Call}
use Rattle.rules.specs.State.{Setup, State}
use Rattle.rules.specs.Calls.{called, started}

-- one call as its caller saw it: what was asked, how many records the sheet had, the answer, and the events told
pub record Seen : Type 0 where
  pub call : Call
  pub room : ℕ
  pub answer : Answer
  pub told : List Event

-- what was seen since power-up, the newest last
pub data History : Type 0 where
  powered : History
  then : History → Seen → History

-- a call by its caller's own records: the sheet that was handed over, the answer, and the sheet as it came back
abbrev pub seen : Call → List Event → Answer → List Event → Seen
seen c given a left = record { call = c; room = length given; answer = a; told = take a.told left }

-- by the rules, the call e with all that was seen of it leads from the state s to the state t
pub record Leads (b : Setup) (s : State) (e : Seen) (t : State) : Type 0 where
  pub state : t ≡ (called b s e.call e.room).state
  pub answer : e.answer ≡ record {
    code = (called b s e.call e.room).code;
    told = length (called b s e.call e.room).told;
    factor = (called b s e.call e.room).factor;
  }
  pub told : e.told ≡ (called b s e.call e.room).told

-- the histories that the rules can produce, with the state that each leads to
pub data Reached (b : Setup) : History → State → Type 0 where
  on : Reached b powered (started b)
  by : {h : History} {s t : State} {e : Seen} → Reached b h s → Leads b s e t → Reached b (then h e) t

-- what power-up tells
abbrev pub begun : List Event
begun = event Accepted 1 ∷ (event Runs 1 ∷ [])

-- all events told, oldest first
abbrev pub events : History → List Event
events powered = begun
events (then h e) = events h ++ e.told

-- the calls made, in their order, and what each was answered
abbrev pub calls : History → List Call
calls powered = []
calls (then h e) = calls h ++ (e.call ∷ [])

abbrev pub answers : History → List Answer
answers powered = []
answers (then h e) = answers h ++ (e.answer ∷ [])
