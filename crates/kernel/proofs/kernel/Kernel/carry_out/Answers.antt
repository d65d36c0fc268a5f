use Rattle.std.proofs.Common.{length, refl, sym, ap, ◌∙◌}
use Rattle.std.proofs.lemmas.List.{length-take-le}
use Rattle.roll.specs.Model.{first_in}
use Rattle.rules.specs.State.{Tasks, numbered}
use Rattle.kernel.specs.Views.{seen}
use Rattle.kernel.proofs.Fronts.{comes_front}
use Rattle.kernel.proofs.Same.{same_state, same_station}
use Rattle.kernel.proofs.Settled.{settled_comes, kept_comes, performed, coil_refused}
use Rattle.kernel.proofs.kernel.Kernel.carry_out.Goals as goal

pub returns-then-is_coil_out_of_range : goal.returns-then-is_coil_out_of_range
returns-then-is_coil_out_of_range g c =
    let front = c.in-Some.ensures.cases in
    let v = seen g.R.Roll.meaning g.R.Roll.LEVER c.args.self.now in
    performed c.args.call refl front.enough (coil_refused v.setup v.state c.args.call (sym c.if-is_coil_out_of_range.ensures))
    (comes_front 100 front.enough (ap length front.same ∙ length-take-le 100 c.args.sheet.now front.enough) front.same
    (record { setup = refl; state = refl; answer = c.silent-then-is_coil_out_of_range.ensures; sheet = refl }))

pub returns-in-Ok : goal.returns-in-Ok
returns-in-Ok g c =
    let w = c.in-Ok.ensures in
    let f = c.first-was.ensures in
    let s = c.settle.ensures in
    let front = c.in-Some.ensures.cases in
    performed c.args.call (same_station refl (same_state f.same refl refl refl)) front.enough w.2
    (comes_front 100 front.enough s.long front.same
    (settled_comes c.first-was.result w.3 (ap numbered (f.answer ∙ sym (ap (λ (v : Tasks). first_in v.roll) f.same))) s.same s.answer s.sheet))

pub returns-in-Ok-2 : goal.returns-in-Ok-2
returns-in-Ok-2 g c =
    let w = c.in-Ok.ensures in
    let front = c.in-Some.ensures.cases in
    performed c.args.call (same_station refl (same_state c.first-was.ensures.same refl refl refl)) front.enough w.2
    (comes_front 100 front.enough c.work.array_long front.same (kept_comes w.3 c.if-effect.false))

pub returns-in-Err : goal.returns-in-Err
returns-in-Err g c =
    let front = c.in-Some.ensures.cases in
    performed c.args.call (same_station refl (same_state c.first-was.ensures.same refl refl refl)) front.enough refl
    (comes_front 100 front.enough c.work.array_long front.same c.in-Err.ensures)
