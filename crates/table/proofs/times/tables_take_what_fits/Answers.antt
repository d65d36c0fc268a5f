use Rattle.table.proofs.Orders.{takes, refuses}
use Rattle.table.proofs.times.tables_take_what_fits.Goals as goal

pub returns : goal.returns
returns g c = (takes g.E.TableEntry.after, refuses g.E.TableEntry.after)
