use Rattle.std.proofs.Common.{◌≡◌, ◌<◌, ◌≤◌, [], ◌∷◌, ◌++◌, Some, sym, ap, ◌∙◌, subst, arith, rules}
use Rattle.roll.specs.Firsts.{first_of}
use Rattle.roll.specs.Model.{Model, Sound, first_in, after_sleep}
use Rattle.roll.proofs.Sleeps.{awakes, awakes_le}
use Rattle.roll.proofs.Sounds.{sound_length}
use Rattle.lever.specs.Meaning.{members}
use Rattle.lever.specs.Searches.{roused}
use Rattle.lever.proofs.Turns.{turn_first, turn_none, turn_one, turn_some, turn_same, slept_more}
use Rattle.lever.proofs.search.first.Goals as goal
use Rattle.lever.proofs.search.first.Goals.{in-Some+then-not-has, in_default}

-- at most 254 entries are awake
few_awake : (m : Model) → Sound m → awakes m.entries ≤ 254
few_awake m s = let n = awakes_le m.entries in let k = sound_length m.entries s.0 in omega arith

pub returns-then-free-clause-answer : goal.returns-then-free-clause-answer
returns-then-free-clause-answer g c =
    let p = g.met.R.Roll.free c.args.roll.now c.requires in
    turn_first (g.R.Roll.meaning c.args.roll.now) p (members c.args.held.now) c.first-found.result c.first-found.ensures.answer (λ t e. let k = rw e at c.is_none_or-free.ensures in let v = c.if-free.true in search rules)

pub push-requires : goal.push-requires
push-requires g c =
    let f = turn_one (g.R.Roll.meaning c.loop-found.roll) (g.met.R.Roll.free c.loop-found.roll c.requires) c.in-Some.task (sym c.in-Some.is ∙ c.loop-found.invariant.3) in
    let k = few_awake (g.R.Roll.meaning c.first-found.new.self) (g.met.R.Roll.sound c.first-found.new.self) in
    let i = c.loop-found.invariant.2 in
    omega arith

pub loop-found-smaller : goal.loop-found-smaller
loop-found-smaller g c =
    let b = c.loop-found.roll in
    let m = g.R.Roll.meaning b in
    let t = c.in-Some.task in
    let f = turn_one m (g.met.R.Roll.free b c.requires) t (sym c.in-Some.is ∙ c.loop-found.invariant.3) in
    let e : g.R.Roll.meaning c.first-found-in-Some.new.self ≡ after_sleep t m = c.first-found-in-Some.ensures.after ∙ c.sleep.ensures.after in
    let k : awakes (after_sleep t m).entries < awakes m.entries = omega arith in
    subst (λ (x : Model). awakes x.entries < awakes m.entries) (sym e) k

pub loop-found-preserved : goal.loop-found-preserved
loop-found-preserved g c =
    let b = c.loop-found.roll in
    let m = g.R.Roll.meaning b in
    let t = c.in-Some.task in
    let h = members c.args.held.now in
    let xs = c.loop-found.slept.items in
    let inv = c.loop-found.invariant in
    let p = g.met.R.Roll.free b c.requires in
    let f : Some t ≡ first_in m = sym c.in-Some.is ∙ inv.3 in
    let one = turn_one m p t f in
    let sum = inv.2 in
    let e : g.R.Roll.meaning c.first-found-in-Some.new.self ≡ after_sleep t m = c.first-found-in-Some.ensures.after ∙ c.sleep.ensures.after in
    let awake : awakes (g.R.Roll.meaning c.first-found-in-Some.new.self).entries ≡ awakes (after_sleep t m).entries = ap (λ (x : Model). awakes x.entries) e in
    let pushed = c.push.ensures.items in
    let len = c.push.ensures.len in (
      ap (λ l. roused l (g.R.Roll.meaning c.first-found-in-Some.new.self)) pushed ∙ ap (roused (xs ++ t ∷ [])) e ∙ slept_more xs t m p f ∙ inv.0,
      ap (λ (x : Model). first_of h x.entries) e ∙ turn_same m p t f h (sym c.if-not-has.ensures) ∙ inv.1,
      omega arith,
      c.first-found-in-Some.ensures.answer ∙ ap first_in (sym c.first-found-in-Some.ensures.after),
    )

pub returns : goal.returns
returns g c =
    let b = c.loop-found.roll in
    let m = g.R.Roll.meaning b in
    let p = g.met.R.Roll.free b c.requires in
    let h = members c.args.held.now in
    let inv = c.loop-found.invariant in
    let back = c.first-found.ensures.after in
    let same : first_of h m.entries ≡ first_of h (g.R.Roll.meaning c.args.roll.now).entries = inv.1 ∙ ap (λ (x : Model). first_of h x.entries) back in
    let found : c.match-found.found ≡ first_of h m.entries = (elim c.match-found.branch [
      | in-Some+then-not-has w ↦ w.found-is ∙ turn_some m p w.in-Some.task (sym w.in-Some.is ∙ inv.3) h (sym w.if-not-has.ensures)
      | in_default w ↦ w.found-is ∙ w.in_default.is ∙ turn_none m p h (sym w.in_default.is ∙ inv.3)
    ]) in
    record {
      answer = found ∙ same;
      after = c.rouse.ensures ∙ ap (λ l. roused l m) c.as_slice.ensures.value ∙ inv.0 ∙ back;
    }
