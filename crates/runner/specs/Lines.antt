-- The lines of a listing, as bytes. Numbers are in decimal.
use Rattle.std.specs.Prelude.{ℕ, List, [], ◌∷◌, ◌++◌, codes, decimal}
use Rattle.std.specs.List.{flat_map}
use Rattle.sheet.specs.declared.event.Event.{Event}
use Rattle.sheet.specs.Events.{word_of}
use Rattle.book.specs.declared.faults.Fault.{Fault}
use Rattle.book.specs.Faults.{number_of}
use Rattle.runner.specs.declared.line.Line.{Line}

-- the bytes of a line
abbrev pub bytes_of : Line → List ℕ
bytes_of l = l.text.bytes

-- one space, and the line feed that ends every line
abbrev pub space : List ℕ
space = 32 ∷ []

abbrev pub feed : List ℕ
feed = 10 ∷ []

-- an event: step, word, task
unfoldable pub line_of_event : ℕ → Event → List ℕ
line_of_event step e = decimal step ++ (space ++ (word_of e.kind ++ (space ++ (decimal e.task ++ feed))))

-- the events of a step
abbrev pub lines_of_events : ℕ → List Event → List ℕ
lines_of_events step es = flat_map (line_of_event step) es

-- the last line: how many starts are left on the roll
unfoldable pub line_of_left : ℕ → List ℕ
line_of_left n = codes "left" ++ (space ++ (decimal n ++ feed))

-- the only line of a book that is refused: number and place of its fault
unfoldable pub line_of_fault : Fault → List ℕ
line_of_fault f = codes "book" ++ (space ++ (decimal (number_of f.cause) ++ (space ++ (decimal f.place ++ feed))))
