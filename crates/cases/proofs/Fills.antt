-- The timer table filled, and freed by a cancel.
use Rattle.std.proofs.Common.{◌≡◌, ℕ, suc, ◌+◌, ◌<◌, ◌≤◌, Bool, true, false, cond, not, List, [], ◌∷◌, ◌++◌, length, filter, sym, refl, ap, ◌∙◌, arith, length-append}
use Rattle.std.proofs.lemmas.Bool.{lt-leb, le-leb, eqb-false, not_from_true}
use Rattle.table.specs.declared.timer.TimerPlace.{TimerPlace}
use Rattle.table.specs.declared.selection.Selection.TheVariants.{Set}
use Rattle.table.specs.Timers.{timer_place, timer_selected}
use Rattle.rules.specs.declared.answer.Code.TheVariants.{Done, TableFull}
use Rattle.rules.specs.declared.call.Macro.TheVariants.{Timer, Ctime}
use Rattle.rules.specs.State.{Setup, State, running}
use Rattle.rules.specs.Tables.{timers_full, no_timer, timers_without}
use Rattle.rules.specs.Fields.{in_range}
use Rattle.rules.specs.Effects.{in_timers, quiet, obeyed}
use Rattle.rules.specs.Refusals.{Step, settled, refused, unregistered, no_place, nothing_set}
use Rattle.rules.specs.Calls.{answered}
use Rattle.cases.specs.Edges.{number, issued, Issuer, Filled, FullTable}
use Rattle.cases.proofs.Walks.{passes, stops, own_checks}

parts : (q : TimerPlace → Bool) (ps : List TimerPlace) → length (filter q ps) + length (filter (λ p. not (q p)) ps) ≡ length ps
parts q [] = refl
parts q (p ∷ ps) =
    let i = parts q ps in
    elim (q p) as (λ v. length (cond v (p ∷ filter q ps) (filter q ps)) + length (cond (not v) (p ∷ filter (λ x. not (q x)) ps) (filter (λ x. not (q x)) ps)) ≡ suc (length ps)) [
      | true ↦ omega arith
      | false ↦ omega arith
    ]

below : (m n k : ℕ) → m + n ≡ k → k ≡ 64 → (m ≡ 0 → ⊥) → n < 64
below m n k a z q = omega arith

-- another timer table has the same issuer
same : (s : State) (r room : ℕ) (ps : List TimerPlace) → Issuer s r room → Issuer (in_timers s ps) r room
same s r room ps i = record { task = i.task; first = i.first; sheet = i.sheet }

module _ (b : Setup) (t n c x : ℕ) (g : b.registered t ≡ true) (f : in_range (Timer t n c x) ≡ true) where
  to_place : (s : State) (r room : ℕ) → Issuer s r room → issued b room s (Timer t n c x) ≡ answered (no_place b s (timers_full s) ∷ []) (settled s Done (quiet (in_timers s (s.timers ++ (timer_place t x n c ∷ [])))))
  to_place s r room i = own_checks b s r room i (Timer t n c x) f
      ∙ passes (unregistered b s t) (no_place b s (timers_full s) ∷ []) (settled s Done (obeyed b s (running s.tasks) (Timer t n c x))) (not_from_true (b.registered t) g)

  placed : (s : State) (r room : ℕ) → Issuer s r room → length s.timers < 64 → issued b room s (Timer t n c x) ≡ settled s Done (quiet (in_timers s (s.timers ++ (timer_place t x n c ∷ []))))
  placed s r room i l = to_place s r room i ∙ passes (no_place b s (timers_full s)) [] (settled s Done (obeyed b s (running s.tasks) (Timer t n c x))) (lt-leb 64 (length s.timers) l)

  no_room : (s : State) (r room : ℕ) → Issuer s r room → 64 ≤ length s.timers → issued b room s (Timer t n c x) ≡ refused s TableFull
  no_room s r room i l = to_place s r room i ∙ stops (no_place b s (timers_full s)) [] (settled s Done (obeyed b s (running s.tasks) (Timer t n c x))) (le-leb 64 (length s.timers) l)

cancelled : (b : Setup) (s : State) (r room u y : ℕ) → Issuer s r room → in_range (Ctime u y) ≡ true → no_timer s u y ≡ false → issued b room s (Ctime u y) ≡ settled s Done (quiet (in_timers s (timers_without s (Set u y))))
cancelled b s r room u y i f h = own_checks b s r room i (Ctime u y) f ∙ passes (nothing_set b s (no_timer s u y)) [] (settled s Done (obeyed b s (running s.tasks) (Ctime u y))) h

-- the answers of any four steps; a step of its own, so that an answer that is not the table's is seen at once
filled : (last over cancel again : Step) → number last ≡ 0 → number over ≡ 1 → number cancel ≡ 0 → number again ≡ 0 → Filled last over cancel again
filled last over cancel again a o c g = record { accepted = a; full = o; cancelled = c; freed = g }

pub fills : (b : Setup) (s : State) (r t n c x u y room : ℕ) → Issuer s r room → b.registered t ≡ true → in_range (Timer t n c x) ≡ true → in_range (Ctime u y) ≡ true
    → length s.timers ≡ 63
    → no_timer (issued b room (issued b room s (Timer t n c x)).state (Timer t n c x)).state u y ≡ false
    → FullTable b s room (Timer t n c x) (Ctime u y)
fills b s r t n c x u y room i g f d l h =
    filled _ _ _ _ (ap number e1)
    (ap (λ (k : Step). number (issued b room k.state (Timer t n c x))) e1 ∙ ap number e2)
    (ap (λ (z : State). number (issued b room z (Ctime u y))) p ∙ ap number e3)
    (ap (λ (z : State). number (issued b room (issued b room z (Ctime u y)).state (Timer t n c x))) p ∙ ap (λ (k : Step). number (issued b room k.state (Timer t n c x))) e3 ∙ ap number e4)
  where
    s1 : State
    s1 = in_timers s (s.timers ++ (timer_place t x n c ∷ []))

    s3 : State
    s3 = in_timers s1 (timers_without s1 (Set u y))

    l1 : length s1.timers ≡ 64
    l1 = length-append s.timers (timer_place t x n c ∷ []) ∙ ap (λ m. m + 1) l

    e1 : issued b room s (Timer t n c x) ≡ settled s Done (quiet s1)
    e1 = placed b t n c x g f s r room i (omega arith)

    e2 : issued b room s1 (Timer t n c x) ≡ refused s1 TableFull
    e2 = no_room b t n c x g f s1 r room (same s r room s1.timers i) (let z = l1 in omega arith)

    p : (issued b room (issued b room s (Timer t n c x)).state (Timer t n c x)).state ≡ s1
    p = ap (λ (k : Step). (issued b room k.state (Timer t n c x)).state) e1 ∙ ap (λ (k : Step). k.state) e2

    h1 : no_timer s1 u y ≡ false
    h1 = sym (ap (λ (z : State). no_timer z u y) p) ∙ h

    e3 : issued b room s1 (Ctime u y) ≡ settled s1 Done (quiet s3)
    e3 = cancelled b s1 r room u y (same s r room s1.timers i) d h1

    l3 : length s3.timers < 64
    l3 =
        let a = parts (timer_selected (Set u y)) s1.timers in
        let k = eqb-false (length (filter (timer_selected (Set u y)) s1.timers)) 0 h1 in
        below (length (filter (timer_selected (Set u y)) s1.timers)) (length (timers_without s1 (Set u y))) (length s1.timers) a l1 k

    e4 : issued b room s3 (Timer t n c x) ≡ settled s3 Done (quiet (in_timers s3 (s3.timers ++ (timer_place t x n c ∷ []))))
    e4 = placed b t n c x g f s3 r room (same s1 r room s3.timers (same s r room s1.timers i)) l3
