use Rattle.std.proofs.Common.{◌≡◌, ◌++◌, map, take, drop}
use Rattle.stamped.specs.Numbers.{below, stamps_in, renumbered_slot}
use Rattle.stamped.specs.Noted.{noted}
use Rattle.stamped.proofs.renumbering.slots.renumber.Given as goal

abbrev pub invariant-loop-slot : goal.invariant-loop-slot
invariant-loop-slot l = noted l.numbers ≡ stamps_in (take l.slot-index l.slot-items)

abbrev pub invariant-loop-slot-2 : goal.invariant-loop-slot-2
invariant-loop-slot-2 l = l.slots ≡ map (renumbered_slot (λ s. below s (noted l.numbers))) (take l.slot-index l.initial.slots) ++ drop l.slot-index l.initial.slots
