use Rattle.std.proofs.Common.{◌≡◌, ◌≤◌, take}
use Rattle.sheet.proofs.Fronts.{Writing}
use Rattle.table.specs.Rows.{entries, listed, firings, all_fired, all_told}
use Rattle.table.proofs.Beats.{Going}
use Rattle.table.proofs.row.beat.Given as goal

abbrev pub invariant-loop-place : goal.invariant-loop-place
invariant-loop-place g l =
    let fs = firings (g.E.TableEntry.fires l.beat) (entries g.E.TableEntry.live (take l.place-index l.initial.places)) in
    let s = g.T.Target.seen l.initial.target in
    record {
      going : Going g.E.TableEntry.live (λ p. listed (g.E.TableEntry.after l.beat p)) l.initial.places l.places l.place-index;
      fired : g.T.Target.seen l.target ≡ all_fired g.T.Target.fired s fs;
      writing : Writing (all_told g.T.Target.fired g.T.Target.tells s fs) l.initial.sheet l.sheet l.told;
      within : l.told ≤ l.place-index;
    }
