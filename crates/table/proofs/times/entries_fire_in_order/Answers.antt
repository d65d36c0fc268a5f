use Rattle.table.specs.Rows.{listed}
use Rattle.std.proofs.lemmas.Grind.{flat_map-append}
use Rattle.table.proofs.times.entries_fire_in_order.Goals as goal

pub returns : goal.returns
returns g c = flat_map-append (λ p. listed (g.E.TableEntry.fires c.args.beat p))
