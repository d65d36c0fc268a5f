-- The life of a station that carries out a book, and the laws of it.
use Rattle.std.specs.Prelude.{◌≡◌, ℕ, zero, suc, Bool, true, List, ◌++◌}
use Rattle.sheet.specs.declared.event.Event.{Event}
use Rattle.book.specs.Verdict.{told, clean}
use Rattle.laws.specs.Histories.{History, Reached, begun, events}
use Rattle.laws.specs.Laws.{Laws}
use Rattle.station.specs.Views.{setup_in}
use Rattle.runner.specs.Scripts.{stepped}
use Rattle.runner.specs.Listing.{progress_after}

-- the events of power-up and of the first n steps, in the order of their lines
unfoldable pub told_by : Bool → List ℕ → ℕ → List Event
told_by lever b zero = begun
told_by lever b (suc n) = told_by lever b n ++ (stepped b (progress_after lever b n)).told

-- The first n steps are a history of calls from power-up on: it tells what the lines tell, it leads to the station that the
-- steps lead to, and the laws hold of it.
pub record Lived (lever : Bool) (b : List ℕ) (n : ℕ) : Type 0 where
  pub history : History
  pub reached : Reached (setup_in lever b) history (progress_after lever b n).station.state
  pub tells : events history ≡ told_by lever b n
  pub laws : Laws (setup_in lever b) history (progress_after lever b n).station.state

-- so it is after every step of every book without faults
abbrev pub Lives : Bool → List ℕ → Type 0
Lives lever b = clean (told b) ≡ true → (n : ℕ) → Lived lever b n
