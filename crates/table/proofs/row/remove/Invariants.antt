use Rattle.std.proofs.Common.{◌≡◌, ◌≤◌, cond, [], ◌∷◌, length, take, filter}
use Rattle.table.specs.Rows.{entries}
use Rattle.table.proofs.Beats.{Going}
use Rattle.table.proofs.row.remove.Given as goal

abbrev pub invariant-loop-place : goal.invariant-loop-place
invariant-loop-place g l =
    record {
      going : Going g.E.TableEntry.live (λ p. cond (g.E.TableEntry.chosen l.by p) [] (p ∷ [])) l.initial.places l.places l.place-index;
      counted : l.count ≡ length (filter (g.E.TableEntry.chosen l.by) (entries g.E.TableEntry.live (take l.place-index l.initial.places)));
      within : l.count ≤ l.place-index;
    }
