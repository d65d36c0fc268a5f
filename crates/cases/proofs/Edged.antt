-- The edges of the rules.
use Rattle.std.proofs.Common.{refl}
use Rattle.cases.specs.Edges.{Edges}
use Rattle.cases.proofs.Calls.{sleeps, cut_off, queued, two_cuts, coils}
use Rattle.cases.proofs.Gets.{gets}
use Rattle.cases.proofs.Ages.{keeps_age}
use Rattle.cases.proofs.Fills.{fills}
use Rattle.cases.proofs.Midnights.{midnight, ticks}
use Rattle.cases.proofs.Stays.{roused, cyclic, abort_keeps}

pub edges : Edges
edges = record {
  delay_limits = λ b s r room i. record { longest = sleeps b s r room i; none = cut_off b s r room 0 i refl; over = cut_off b s r room 86400001 i refl };
  queue_twice = queued;
  factors = gets;
  keeps_age = keeps_age;
  full_table = fills;
  two_cuts = two_cuts;
  coil_numbers = coils;
  midnight_wake = midnight;
  ticks = ticks;
  roused_keeps_place = roused;
  cyclic_stays = cyclic;
  abort_keeps_timers = abort_keeps;
}
