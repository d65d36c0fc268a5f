-- The events that a call tells, and their words.
use Rattle.std.specs.Prelude.{ℕ, List, ◌++◌, codes, decimal}
use Rattle.sheet.specs.declared.event.Kind.{Kind}
use Rattle.sheet.specs.declared.event.Kind.TheVariants.{Accepted, Missed, Ended, Cut, Wakened, Runs}
use Rattle.sheet.specs.declared.event.Event.{Event}

-- the word of each kind of event, as bytes
abbrev pub word_of : Kind → List ℕ
word_of Accepted = codes "accepted"
word_of Missed = codes "missed"
word_of Ended = codes "ended"
word_of Cut = codes "cut"
word_of Wakened = codes "wakened"
word_of Runs = codes "runs"

-- what is printed of an event: its word, a space and its task in decimal
abbrev pub text_of : Event → List ℕ
text_of e = word_of e.kind ++ (codes " " ++ decimal e.task)

abbrev pub event : Kind → ℕ → Event
event k t = record { kind = k; task = t }
