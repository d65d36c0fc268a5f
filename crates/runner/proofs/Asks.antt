-- What comes back from a call on a sheet of a hundred records.
use Rattle.std.proofs.Common.{◌≡◌, ℕ, ◌≤◌, List, length, take, drop, refl, ap, ◌∙◌, arith}
use Rattle.std.proofs.lemmas.List.{take_at, length-append}
use Rattle.sheet.specs.declared.event.Event.{Event}
use Rattle.rules.specs.declared.answer.Answer.{Answer}
use Rattle.rules.specs.declared.call.Call.{Call}
use Rattle.rules.specs.State.{Station}
use Rattle.rules.specs.Refusals.{Step}
use Rattle.rules.specs.Calls.{called, Comes, Performed}
use Rattle.kernel.proofs.Same.{same_station}
use Rattle.runner.specs.Scripts.{asked, after}

module _ (before done : Station) (given : List Event) (a : Answer) (left : List Event) where
  came_told : (k : Step) → Comes k before given done a left → take a.told left ≡ k.told
  came_told k p =
      ap (λ (x : Answer). take x.told left) p.answer ∙ ap (take (length k.told)) p.sheet
      ∙ take_at k.told (drop (length k.told) given) (length k.told) refl

  came_within : (k : Step) → Comes k before given done a left → length left ≡ 100 → a.told ≤ 100
  came_within k p e =
      let n : a.told ≡ length k.told = ap (λ (x : Answer). x.told) p.answer in
      let s = ap length p.sheet ∙ length-append k.told (drop (length k.told) given) in
      omega (arith, n, s, e)

  module _ (c : Call) (room : length given ≡ 100) (p : Performed before c given done a left) where
    pub asked_station : done ≡ after before c
    unfolding asked
    asked_station = same_station p.setup (p.state ∙ ap (λ (n : ℕ). (called before.setup before.state c n).state) room)

    pub asked_told : take a.told left ≡ (asked before c).told
    unfolding asked
    asked_told =
        came_told (called before.setup before.state c (length given)) p ∙ ap (λ (n : ℕ). (called before.setup before.state c n).told) room

    pub asked_factor : a.factor ≡ (asked before c).factor
    unfolding asked
    asked_factor = ap (λ (x : Answer). x.factor) p.answer ∙ ap (λ (n : ℕ). (called before.setup before.state c n).factor) room

    pub asked_within : length left ≡ 100 → a.told ≤ 100
    asked_within = came_within (called before.setup before.state c (length given)) p
