use Rattle.std.proofs.Common.{◌≡◌, ltb, ap, ◌∙◌, arith}
use mir.Val.{bool_byte}
use Rattle.std.specs.Result.{is_ok}
use Rattle.roll.specs.Entries.{count_of, ended}
use Rattle.roll.specs.Model.{Model, after_end, with}
use Rattle.roll.proofs.Clears.{both_ended, ended_twice}
use Rattle.roll.proofs.Verdicts.{verdict_is}
use Rattle.roll.proofs.Roll.clear.Goals as goal

pub returns-clause-answer : goal.returns-clause-answer
returns-clause-answer g c =
    let t = c.args.task in
    let es = (g.Self.Roll.meaning c.args.self.now).entries in
    let n = both_ended t es (g.met.Self.Roll.sound c.args.self.now).0 in
    let one : c.is_ok.result ≡ ltb 0 (count_of t es) = c.is_ok.ensures.value ∙ ap is_ok c.end.ensures.answer ∙ verdict_is _ in
    let two : c.is_ok-2.result ≡ ltb 0 (count_of t (ended t es)) = c.is_ok-2.ensures.value ∙ ap is_ok c.end-2.ensures.answer ∙ verdict_is _ ∙ ap (λ (m : Model). ltb 0 (count_of t m.entries)) c.end.ensures.after in
    let a = ap bool_byte one in
    let b = ap bool_byte two in
    omega arith

pub returns-clause-after : goal.returns-clause-after
returns-clause-after g c =
    let m = g.Self.Roll.meaning c.args.self.now in
    c.end-2.ensures.after ∙ ap (after_end c.args.task) c.end.ensures.after ∙ ap (with m) (ended_twice c.args.task m.entries (g.met.Self.Roll.sound c.args.self.now).0)
