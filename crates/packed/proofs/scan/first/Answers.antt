use Rattle.std.proofs.Common.{◌≡◌, ℕ, ◌≤◌, Bool, true, false, List, length, drop, replicate, None, Option, sym, ap, ◌∙◌, rules}
use Rattle.std.proofs.lemmas.List.{at_drop_all}
use Rattle.roll.specs.Tables.{none}
use Rattle.roll.specs.Entries.{all_good?}
use Rattle.roll.specs.Firsts.{task_of, first_of}
use Rattle.roll.specs.declared.entry.Entry.{Entry}
use Rattle.packed.proofs.Walks.{walk, walk_first}
use Rattle.packed.proofs.scan.first.Goals as goal

-- at the end of the loop the best is that of the whole walk
walked : (seen : List Bool) (best : Option Entry) (es : List Entry) (i : ℕ) → length es ≤ i → all_good? es ≡ true → walk seen best (drop i es) ≡ walk (replicate 128 false) None es → task_of best ≡ first_of none es
walked seen best es i past good inv =
    let k : walk seen best (drop i es) ≡ best = at_drop_all (walk seen best) es i past in
    ap task_of (sym k ∙ inv) ∙ walk_first es good

pub returns : goal.returns
returns c =
    let m : c.map.result ≡ task_of c.loop-e.best = search rules in
    m ∙ walked c.loop-e.seen c.loop-e.best c.args.es.now c.loop-e.e-index c.loop-e-test.false c.requires c.loop-e.invariant.0
