-- The faults of a book: number, group and layer of each cause, and which of two is told before the other.
use Rattle.std.specs.Prelude.{ℕ, Bool, ◌&&◌, ◌||◌, List, ◌∷◌, ◌++◌, codes, decimal, ◌==◌, nat_lt}
use Rattle.book.specs.declared.faults.Layer.{Layer}
use Rattle.book.specs.declared.faults.Layer.TheVariants.{Header, Task, Instruction}
use Rattle.book.specs.declared.faults.Cause.{Cause}
use Rattle.book.specs.declared.faults.Cause.TheVariants.{Size, Range, Sections, BadTask, NoTaskOne, BadInstruction}
use Rattle.book.specs.declared.faults.Fault.{Fault}

-- the words for a layer
abbrev pub word_of : Layer → List ℕ
word_of Header = codes "header"
word_of Task = codes "task row"
word_of Instruction = codes "instruction row"

abbrev pub number_of : Cause → ℕ
number_of Size = 21
number_of Range = 22
number_of Sections = 23
number_of BadTask = 24
number_of NoTaskOne = 25
number_of BadInstruction = 26

-- the groups, in the order in which they are looked at
abbrev pub group_of : Cause → ℕ
group_of Size = 0
group_of Range = 1
group_of Sections = 1
group_of BadTask = 2
group_of NoTaskOne = 2
group_of BadInstruction = 2

abbrev pub layer_of : Cause → Layer
layer_of Size = Header
layer_of Range = Header
layer_of Sections = Header
layer_of BadTask = Task
layer_of NoTaskOne = Task
layer_of BadInstruction = Instruction

-- the fault of a cause at a byte place
abbrev pub fault : Cause → ℕ → Fault
fault why p = record { cause = why; place = p; layer = layer_of why }

-- f is told before g: an earlier group; in one group a lower place; at one place a lower number
abbrev pub before : Fault → Fault → Bool
before f g =
    nat_lt (group_of f.cause) (group_of g.cause)
    || (group_of f.cause == group_of g.cause
    && (nat_lt f.place g.place
    || (f.place == g.place
    && nat_lt (number_of f.cause) (number_of g.cause))))

-- how a fault is told: "book", its number, its place, with a space between, in decimal
abbrev pub text_of : Fault → List ℕ
text_of f = codes "book" ++ (32 ∷ (decimal (number_of f.cause) ++ (32 ∷ decimal f.place)))
