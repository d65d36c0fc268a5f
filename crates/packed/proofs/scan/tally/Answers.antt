use Rattle.std.proofs.Common.{◌≡◌, suc, ◌+◌, ◌<◌, cond, length, get_or, drop, arith}
use Rattle.std.proofs.lemmas.Bool.Decides.{nat_tests}
use Rattle.std.proofs.lemmas.List.{at_drop_more, at_drop_all}
use Rattle.roll.specs.Entries.{of?, awake, count_of}
use Rattle.packed.proofs.scan.tally.Goals as goal

pub overflow_add-n : goal.overflow_add-n
overflow_add-n c =
    let es = c.args.es.now in
    let t = c.args.task in
    let i = c.loop-e.e-index in
    let lt : i < length es = omega arith in
    let s : count_of t (drop i es) ≡ cond (of? t (get_or es i (awake 0 0))) (suc (count_of t (drop (i + 1) es))) (count_of t (drop (i + 1) es)) = at_drop_more (count_of t) es i (awake 0 0) lt in
    grind (arith, nat_tests)

pub loop-e-preserved : goal.loop-e-preserved
loop-e-preserved c =
    let es = c.args.es.now in
    let t = c.args.task in
    let i = c.loop-e.e-index in
    let lt : i < length es = omega arith in
    let s : count_of t (drop i es) ≡ cond (of? t (get_or es i (awake 0 0))) (suc (count_of t (drop (i + 1) es))) (count_of t (drop (i + 1) es)) = at_drop_more (count_of t) es i (awake 0 0) lt in
    grind (arith, nat_tests)

pub returns : goal.returns
returns c =
    let es = c.args.es.now in
    let t = c.args.task in
    let s : count_of t (drop c.loop-e.e-index es) ≡ 0 = at_drop_all (count_of t) es c.loop-e.e-index (omega arith) in
    grind arith
