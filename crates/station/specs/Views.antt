-- What a live station means to the rules, whatever roll it holds.
use Rattle.std.specs.Prelude.{ℕ, Bool, List}
use Rattle.roll.specs.Model.{Model}
use Rattle.rules.specs.State.{Setup, Station}
use Rattle.kernel.specs.Views.{setup_in as setup_of_book, seen as seen_in}
use Rattle.station.specs.declared.live.Live.{Live}

-- what a book says of its tasks, for a station whose roll has a lever or not
abbrev pub setup_in : Bool → List ℕ → Setup
setup_in lever bytes = setup_of_book lever bytes

-- the station, by the meaning of its roll and whether that has a lever
abbrev pub seen : {R : Type 0} → (R → Model) → Bool → Live R → Station
seen meaning lever s = seen_in meaning lever s.kernel
