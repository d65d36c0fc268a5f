-- What a cut and power-up make of a roll.
use Rattle.std.proofs.Common.{◌≡◌, ℕ, ◌≤◌, ltb, [], ◌∷◌, Bool, true, false, refl, sym, ap, inl, inr, arith}
use Rattle.std.proofs.lemmas.Bool.{cases_Bool, lt-ltb, and_from}
use Rattle.roll.specs.Ranges.{task?}
use Rattle.roll.specs.Tables.{put, none}
use Rattle.roll.specs.Entries.{awake}
use Rattle.roll.specs.Model.{Model, empty, after_add, after_unhold}
use Rattle.roll.proofs.Tables.{put_kept}

-- the end of a hold, whether it stood or not
pub unheld : (lever : Bool) (t : ℕ) (m : Model) → 1 ≤ t → t ≤ 127 → (lever ≡ false → m.held ≡ none) →
    after_unhold lever t m ≡ record { entries = m.entries; held = put m.held t false }
unheld true t m low high free =
    let p : task? t ≡ true = and_from (ltb 0 t) (ltb t 128) (lt-ltb 0 t (omega arith)) (lt-ltb t 128 (omega arith)) in
    elim (cases_Bool (m.held t)) [
      | inl h ↦ rw (p, h) refl
      | inr h ↦ rw (p, h) (ap (λ (f : ℕ → Bool). let r : Model = record { entries = m.entries; held = f } in r) (sym (put_kept m.held t false h)))
    ]
unheld false t m low high free =
    let h : m.held t ≡ false = ap (λ (f : ℕ → Bool). f t) (free refl) in
    ap (λ (f : ℕ → Bool). let r : Model = record { entries = m.entries; held = f } in r) (sym (put_kept m.held t false h))

-- the one start at power-up
pub first_added : (l : ℕ) → l ≤ 4 → after_add 1 l empty ≡ record { entries = awake 1 l ∷ []; held = none }
first_added l le = let h = lt-ltb l 5 (omega arith) in rw h refl
