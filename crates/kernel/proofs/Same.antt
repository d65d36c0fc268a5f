-- Stations and states that agree in all their parts.
use Rattle.std.proofs.Common.{◌≡◌, ℕ, Bool, List, [], replicate, ap, ◌∙◌}
use Rattle.table.specs.declared.timer.TimerPlace.{TimerPlace}
use Rattle.table.specs.declared.wake.WakePlace.{WakePlace}
use Rattle.table.specs.Rows.{entries}
use Rattle.table.specs.Timers.{standing, no_timer}
use Rattle.table.specs.Wakes.{wake_stands, no_wake}
use Rattle.rules.specs.State.{Setup, Tasks, State, Station}

abbrev pub state_of : Tasks → List TimerPlace → List WakePlace → ℕ → State
state_of s ps ws k = record { tasks = s; timers = ps; wakes = ws; clock = k }

pub same_state : {s s' : Tasks} {p p' : List TimerPlace} {w w' : List WakePlace} {k k' : ℕ} → s ≡ s' → p ≡ p' → w ≡ w' → k ≡ k' → state_of s p w k ≡ state_of s' p' w' k'
same_state {s} {s'} {p} {p'} {w} {w'} {k} {k'} a b c d =
    ap (λ (x : Tasks). state_of x p w k) a ∙ ap (λ (x : List TimerPlace). state_of s' x w k) b ∙ ap (λ (x : List WakePlace). state_of s' p' x k) c ∙ ap (λ (x : ℕ). state_of s' p' w' x) d

-- the same state, with tasks that are the same
pub retasked : (s : State) (ts : Tasks) → ts ≡ s.tasks → state_of ts s.timers s.wakes s.clock ≡ s
retasked s ts e = ap (λ (x : Tasks). state_of x s.timers s.wakes s.clock) e

abbrev pub setup_of : (ℕ → Bool) → (ℕ → ℕ) → Bool → Setup
setup_of r w l = record { registered = r; written = w; lever = l }

pub same_setup : {r r' : ℕ → Bool} {w w' : ℕ → ℕ} (l : Bool) → r ≡ r' → w ≡ w' → setup_of r w l ≡ setup_of r' w' l
same_setup {r} {r'} {w} {w'} l a b = ap (λ (x : ℕ → Bool). setup_of x w l) a ∙ ap (λ (x : ℕ → ℕ). setup_of r' x l) b

pub same_station : {b b' : Setup} {s s' : State} → b ≡ b' → s ≡ s' → ◌≡◌ {A = Station} (record { setup = b; state = s }) (record { setup = b'; state = s' })
same_station {b} {b'} {s} {s'} p q =
    ap (λ (x : Setup). let r : Station = record { setup = x; state = s } in r) p ∙ ap (λ (x : State). let r : Station = record { setup = b'; state = x } in r) q

-- rows of free places have no entries
pub no_timers : (x : TimerPlace) → x ≡ no_timer → entries standing (replicate 64 x) ≡ []
no_timers x e = ap (λ (p : TimerPlace). entries standing (replicate 64 p)) e

pub no_wakes : (x : WakePlace) → x ≡ no_wake → entries wake_stands (replicate 32 x) ≡ []
no_wakes x e = ap (λ (p : WakePlace). entries wake_stands (replicate 32 p)) e
