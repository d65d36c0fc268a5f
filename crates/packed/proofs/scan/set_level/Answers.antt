use Rattle.std.proofs.Common.{◌≡◌, ◌<◌, length, get_or, set, sym, ap, ◌∙◌, arith}
use Rattle.std.proofs.lemmas.List.{get_or_default}
use Rattle.std.proofs.lemmas.List.Edits.{map_over_more}
use Rattle.std.proofs.lemmas.Bool.{eq-eqb, ne_eqb, cond-true, cond-false}
use Rattle.roll.specs.Entries.{relevel, raised, awake, of?}
use Rattle.roll.specs.declared.entry.Entry.{Entry}
use Rattle.packed.proofs.scan.set_level.Goals as goal
use Rattle.packed.proofs.scan.set_level.Goals.{then-e-task, else-e-task}

pub loop-e-preserved : goal.loop-e-preserved
loop-e-preserved c =
    let t = c.args.task in
    let l = c.args.level in
    let xs = c.args.es.now in
    let ys = c.loop-e.es in
    let i = c.loop-e.e-index in
    let x : Entry = get_or ys i (awake 0 0) in
    let lt : i < length ys = omega arith in
    let lt2 : i < length xs = omega arith in
    let d = get_or_default ys i (awake 0 0) x lt in
    let m = map_over_more (relevel t l) xs ys i x lt2 c.loop-e.invariant d in
    elim c.if-e-task.branch [
      | then-e-task w ↦ let e = cond-true (of? t x) (raised l x) x (eq-eqb x.task t w.if-e-task.true) in w.es-is ∙ ap (set ys i) (sym e) ∙ m
      | else-e-task w ↦ let e = cond-false (of? t x) (raised l x) x (ne_eqb x.task t w.if-e-task.false) in let q : c.if-e-task.es ≡ set ys i x = w.es-is in q ∙ ap (set ys i) (sym e) ∙ m
    ]
