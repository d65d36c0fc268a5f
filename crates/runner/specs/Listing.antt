-- The listing of a book: all that the runner hands on, as bytes.
use Rattle.std.specs.Prelude.{ℕ, zero, suc, Bool, List, [], ◌++◌, length, Some, None, Option}
use Rattle.book.specs.declared.faults.Fault.{Fault}
use Rattle.book.specs.Verdict.{told}
use Rattle.book.specs.Reader.{steps_in}
use Rattle.rules.specs.Calls.{started}
use Rattle.laws.specs.Histories.{begun}
use Rattle.station.specs.Views.{setup_in}
use Rattle.runner.specs.Lines.{lines_of_events, line_of_left, line_of_fault}
use Rattle.runner.specs.Scripts.{Progress, beginning, stepped}

-- a station just powered up with the book b, its tasks at the beginning of their scripts
unfoldable pub powered_up : Bool → List ℕ → Progress
powered_up lever b = record {
  station = record { setup = setup_in lever b; state = started (setup_in lever b) };
  positions = λ _. beginning;
}

-- how far all is after n steps
unfoldable pub progress_after : Bool → List ℕ → ℕ → Progress
progress_after lever b zero = powered_up lever b
progress_after lever b (suc n) = (stepped b (progress_after lever b n)).progress

-- the lines of the first n steps, which are numbered from 1 on
unfoldable pub step_lines : Bool → List ℕ → ℕ → List ℕ
step_lines lever b zero = []
step_lines lever b (suc n) = step_lines lever b n ++ lines_of_events (suc n) (stepped b (progress_after lever b n)).told

-- how many starts stand on the roll
unfoldable pub left_on : Progress → ℕ
left_on p = length p.station.state.tasks.roll.entries

-- a book without faults: power-up's events under step 0, the steps, and what is left in the end
unfoldable pub run_lines : Bool → List ℕ → List ℕ
run_lines lever b = lines_of_events 0 begun ++ (step_lines lever b (steps_in b) ++ line_of_left (left_on (progress_after lever b (steps_in b))))

abbrev pub listing_by : Option Fault → Bool → List ℕ → List ℕ
listing_by None lever b = run_lines lever b
listing_by (Some f) lever b = line_of_fault f

-- any bytes, for a roll that has a lever or not
unfoldable pub listing : Bool → List ℕ → List ℕ
listing lever b = listing_by (told b) lever b
