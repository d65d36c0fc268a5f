use Rattle.std.proofs.Common.{◌≡◌, ℕ, List, ◌++◌, map, length, get_or, take, set, sym, ap, ◌∙◌, arith}
use Rattle.std.proofs.lemmas.List.{take_more, take_all, get_or_default, drop_all, append-nil, length-take-le}
use Rattle.std.proofs.lemmas.List.Edits.{map_over_more}
use Rattle.stamped.specs.declared.slot.Slot.{Slot}
use Rattle.stamped.specs.declared.slot.Slot.TheVariants.{Empty}
use Rattle.stamped.specs.Numbers.{below, stamps_in, stamps_of, renumbered_slot}
use Rattle.stamped.specs.Noted.{noted}
use Rattle.stamped.proofs.Numbers.{stamps_push, stamps_few}
use Rattle.stamped.proofs.renumbering.slots.renumber.Goals as goal

pub note-requires : goal.note-requires
note-requires c =
    let xs = c.args.slots.now in
    let i = c.loop-slot.slot-index in
    let e = ap length c.loop-slot.invariant in
    let k = stamps_few (take i xs) in
    let l : length (take i xs) ≡ i = length-take-le i xs (omega arith) in
    omega arith

pub loop-slot-preserved : goal.loop-slot-preserved
loop-slot-preserved c =
    let xs = c.args.slots.now in
    let i = c.loop-slot.slot-index in
    let more = take_more xs i Empty (omega arith) in
    c.note.ensures ∙ ap (λ l. l ++ stamps_of (get_or xs i Empty)) c.loop-slot.invariant ∙ sym (ap stamps_in more ∙ stamps_push (take i xs) (get_or xs i Empty))

pub loop-slot-2-preserved : goal.loop-slot-2-preserved
loop-slot-2-preserved c =
    let xs = c.args.slots.now in
    let ys = c.loop-slot-2.slots in
    let i = c.loop-slot-2.slot-index in
    let f = renumbered_slot (λ s. below s (noted c.loop-slot.numbers)) in
    let x : Slot = get_or ys i Empty in
    ap (set ys i) c.renumbered.ensures ∙ map_over_more f xs ys i x (omega arith) c.loop-slot-2.invariant (get_or_default ys i Empty x (omega arith))

pub returns : goal.returns
returns c =
    let xs = c.args.slots.now in
    let i = c.loop-slot-2.slot-index in
    let j = c.loop-slot.slot-index in
    let every = take_all j xs c.loop-slot-test.false in
    let all : noted c.loop-slot.numbers ≡ stamps_in xs = c.loop-slot.invariant ∙ ap stamps_in every in
    let f = renumbered_slot (λ s. below s (noted c.loop-slot.numbers)) in
    let a = take_all i xs c.loop-slot-2-test.false in
    let b = drop_all i xs c.loop-slot-2-test.false in
    let done : c.loop-slot-2.slots ≡ map f xs = c.loop-slot-2.invariant ∙ rw (b, a, append-nil) in
    record {
      stamps = done ∙ ap (λ (l : List ℕ). map (renumbered_slot (λ s. below s l)) xs) all;
      count = c.count.ensures ∙ ap length all;
    }
