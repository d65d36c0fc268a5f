use Rattle.std.proofs.Common.{◌≡◌, ◌+◌, length}
use Rattle.roll.specs.Firsts.{first_of}
use Rattle.roll.specs.Model.{first_in}
use Rattle.roll.proofs.Sleeps.{awakes}
use Rattle.lever.specs.Meaning.{members}
use Rattle.lever.specs.Searches.{roused}
use Rattle.lever.proofs.search.first.Given as goal

abbrev pub invariant-loop-found : goal.invariant-loop-found
invariant-loop-found g l =
    let M = g.R.Roll.meaning in
    (roused l.slept.items (M l.roll) ≡ M l.initial.roll)
    × (first_of (members l.held) (M l.roll).entries ≡ first_of (members l.held) (M l.initial.roll).entries)
    × (length l.slept.items + awakes (M l.roll).entries ≡ awakes (M l.initial.roll).entries)
    × (l.found ≡ first_in (M l.roll))

abbrev pub decreases-loop-found : goal.decreases-loop-found
decreases-loop-found g l = awakes (g.R.Roll.meaning l.roll).entries
