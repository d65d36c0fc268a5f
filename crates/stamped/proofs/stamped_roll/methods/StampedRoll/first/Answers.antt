use Rattle.std.proofs.Common.{◌≡◌, ℕ, ◌+◌, Option, sym, refl, ◌∙◌, subst, arith, rules}
use Rattle.stamped.specs.declared.candidate.Candidate.{Candidate}
use Rattle.stamped.specs.Candidates.{owner_of, Least}
use Rattle.stamped.specs.Tables.{orderly_of}
use Rattle.stamped.proofs.Chosen.{least_skip, least_more, chosen_first}
use Rattle.stamped.proofs.stamped_roll.methods.StampedRoll.first.Goals as goal
use Rattle.stamped.proofs.stamped_roll.methods.StampedRoll.first.Goals.{in-Some, in_default}

pub loop-task-preserved : goal.loop-task-preserved
loop-task-preserved c =
    let xs = c.args.self.now.slots in
    let i = c.loop-task.task in
    elim c.match-live.branch [
      | in-Some w ↦
          let p : Candidate = record { task = i; start = w.in-Some.start } in
          subst (λ (o : Option Candidate). Least xs (i + 1) o) (sym (w.best-is ∙ w.or-best.ensures)) (least_more xs i c.loop-task.best p c.loop-task.invariant refl (sym w.in-Some.ensures))
      | in_default w ↦ subst (λ (o : Option Candidate). Least xs (i + 1) o) (sym w.best-is) (least_skip xs i c.loop-task.best c.loop-task.invariant (sym w.in_default.ensures))
    ]

pub returns-clause-answer : goal.returns-clause-answer
returns-clause-answer c =
    let s = c.args.self.now in
    let m : c.map.result ≡ owner_of c.loop-task.best = search rules in
    let e : c.loop-task.task ≡ 128 = omega (arith, s.whole) in
    let h = subst (λ (i : ℕ). Least s.slots i c.loop-task.best) e c.loop-task.invariant in
    m ∙ chosen_first s.slots s.next c.loop-task.best s.whole s.room (orderly_of s) h
