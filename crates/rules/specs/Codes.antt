-- The number of each code.
use Rattle.std.specs.Prelude.{ℕ}
use Rattle.rules.specs.declared.answer.Code.{Code}
use Rattle.rules.specs.declared.answer.Code.TheVariants.{Done, ShortSheet, Idle, FieldRange, CoilRange, NotRegistered, NoLever, Dormant, HoldStands, TwoStarts, TableFull, IsReleased, FactorSet, NothingSet}

abbrev pub number_of : Code → ℕ
number_of Done = 0
number_of ShortSheet = 10
number_of Idle = 11
number_of FieldRange = 12
number_of CoilRange = 13
number_of NotRegistered = 4
number_of NoLever = 5
number_of Dormant = 2
number_of HoldStands = 3
number_of TwoStarts = 1
number_of TableFull = 1
number_of IsReleased = 1
number_of FactorSet = 1
number_of NothingSet = 1
