use Rattle.std.proofs.Common.{◌≡◌, ℕ, ◌+◌, ◌<◌, List, [], length, take, drop, sym, refl, ap, ◌∙◌, subst, arith}
use Rattle.std.proofs.lemmas.List.{take_more, take_more_set, drop-set-lt, drop-drop}
use Rattle.rules.specs.declared.answer.Answer.{Answer}
use Rattle.rules.specs.declared.call.Call.{Call}
use Rattle.rules.specs.State.{Setup, State, Station}
use Rattle.rules.specs.Calls.{started}
use Rattle.laws.specs.Runs.{Ran}
use Rattle.laws.proofs.Always.{ran_none, ran_more}
use Rattle.station.specs.Views.{seen, setup_in}
use Rattle.kernel.proofs.Numbers.{numbered}
use Rattle.station.proofs.driving.drive.Goals as goal

ran_as : {b : Setup} {s : State} {cs cs' : List Call} {ks ks' : List Answer} → cs ≡ cs' → ks ≡ ks' → Ran b cs ks s → Ran b cs' ks' s
ran_as {b} {s} {cs} {cs'} {ks} {ks'} p q r = subst (λ (x : List Answer). Ran b cs' x s) q (subst (λ (x : List Call). Ran b x ks s) p r)

pub loop-i-init : goal.loop-i-init
loop-i-init g c =
    let v = seen g.R.Roll.meaning g.R.Roll.LEVER c.power_up-live.result in
    let b = setup_in g.R.Roll.LEVER c.args.book.bytes.now in
    let e : v ≡ record { setup = b; state = started b } = c.power_up-live.ensures.state in
    let setup : v.setup ≡ b = ap (λ (x : Station). x.setup) e in
    let state : started v.setup ≡ v.state = ap started setup ∙ sym (ap (λ (x : Station). x.state) e) in
    (subst (λ (x : State). Ran v.setup [] [] x) state (ran_none v.setup (numbered c.power_up-live.result.kernel.setup)), setup, refl)

pub loop-i-preserved : goal.loop-i-preserved
loop-i-preserved g c =
    let i = c.loop-i.i in
    let before = seen g.R.Roll.meaning g.R.Roll.LEVER c.loop-i.live in
    let after = seen g.R.Roll.meaning g.R.Roll.LEVER c.perform.new.self in
    let p = c.perform.ensures.performed in
    let lc : i < length c.args.calls.now = omega (arith, c.min-made.ensures) in
    let la : i < length c.loop-i.answers = omega (arith, c.min-made.ensures) in
    let lt : i < i + 1 = omega arith in
    let r = ran_more before after _ c.loop-i.sheet c.perform.result c.perform.new.sheet (take i c.args.calls.now) (take i c.loop-i.answers) (numbered c.loop-i.live.kernel.setup) c.loop-i.invariant.0 p in (
      ran_as (sym (take_more c.args.calls.now i _ lc)) (sym (take_more_set c.loop-i.answers i c.perform.result la)) r,
      p.setup ∙ c.loop-i.invariant.1,
      drop-set-lt (i + 1) c.loop-i.answers i c.perform.result lt ∙ sym (drop-drop 1 i c.loop-i.answers) ∙ ap (drop 1) c.loop-i.invariant.2 ∙ drop-drop 1 i c.args.answers.now,
    )

pub returns : goal.returns
returns g c =
    let i = c.loop-i.invariant in
    let e : c.loop-i.i ≡ c.min-made.result = omega arith in
    let live = seen g.R.Roll.meaning g.R.Roll.LEVER c.loop-i.live in
    record {
      made = c.min-made.ensures;
      setup = i.1;
      ran = subst (λ (b : Setup). Ran b (take c.min-made.result c.args.calls.now) (take c.min-made.result c.loop-i.answers) live.state) i.1
          (subst (λ (n : ℕ). Ran live.setup (take n c.args.calls.now) (take n c.loop-i.answers) live.state) e i.0);
      rest = subst (λ (n : ℕ). drop n c.loop-i.answers ≡ drop n c.args.answers.now) e i.2;
    }
