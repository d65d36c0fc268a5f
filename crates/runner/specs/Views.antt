-- What the runner's own values mean to the definitions above.
use Rattle.std.specs.Prelude.{ℕ, Bool, slice_index_or}
use Rattle.roll.specs.Model.{Model}
use Rattle.rules.specs.State.{Station}
use Rattle.station.specs.declared.live.Live.{Live}
use Rattle.station.specs.Views.{seen}
use Rattle.runner.specs.declared.positions.Position.{Position}
use Rattle.runner.specs.declared.positions.Positions.{Positions}
use Rattle.runner.specs.declared.scripted.ScriptedStation.{ScriptedStation}
use Rattle.runner.specs.Scripts.{beginning, Progress}

abbrev pub positions_in : Positions → ℕ → Position
positions_in ps t = slice_index_or ps.places t beginning

-- the station as the rules see it, whatever roll it holds
unfoldable pub station_in : {R : Type 0} → (R → Model) → Bool → Live R → Station
station_in meaning lever s = seen meaning lever s

abbrev pub progress_in : {R : Type 0} → (R → Model) → Bool → ScriptedStation R → Progress
progress_in meaning lever s = record { station = station_in meaning lever s.station; positions = positions_in s.positions }
