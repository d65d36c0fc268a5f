-- Sample runs: what the rules tell, and that the laws hold.
use Rattle.std.specs.Prelude.{◌≡◌, List, [], ◌∷◌, ◌++◌}
use Rattle.sheet.specs.declared.event.Event.{Event}
use Rattle.sheet.specs.declared.event.Kind.TheVariants.{Accepted, Missed, Ended, Cut, Wakened, Runs}
use Rattle.sheet.specs.Events.{event}
use Rattle.rules.specs.declared.call.Call.{Call}
use Rattle.rules.specs.declared.call.Call.TheVariants.{Macro as Issues, Tick, Coil}
use Rattle.rules.specs.declared.call.Macro.TheVariants.{Rleas, Queue, Abort, Delay, Timer, Ctime, Chap, Susp, Rsum, Exit}
use Rattle.rules.specs.State.{Setup}
use Rattle.laws.specs.Histories.{events, begun, Reached}
use Rattle.laws.specs.Laws.{Laws}
use Rattle.cases.specs.Made.{made, made_state}

-- these calls, each with a sheet of 100 records, tell these events behind those of power-up, and the laws hold
pub record Sample (b : Setup) (asked : List Call) (told : List Event) : Type 0 where
  pub tells : events (made b asked) ≡ begun ++ told
  pub reached : Reached b (made b asked) (made_state b asked)
  pub laws : Laws b (made b asked) (made_state b asked)

pub record Samples (b : Setup) : Type 0 where
  -- a task of a better level takes the processor
  pub preempts : Sample b
      (Issues (Rleas 2) ∷ (Issues (Chap 2 0) ∷ (Issues (Queue 2 0) ∷ [])))
      (event Accepted 2 ∷ (event Runs 2 ∷ []))
  -- a task takes two starts and no third, and does them one after the other
  pub twice : Sample b
      (Issues (Rleas 2) ∷ (Coil 2 ∷ (Coil 2 ∷ (Coil 2 ∷ (Issues Exit ∷ (Issues Exit ∷ (Issues Exit ∷ [])))))))
      (event Accepted 2 ∷ (event Accepted 2 ∷ (event Missed 2 ∷ (event Ended 1 ∷ (event Runs 2 ∷ (event Ended 2 ∷ (event Runs 2 ∷ (event Ended 2 ∷ (event Runs 0 ∷ [])))))))))
  -- a delay of 2 is over after the second tick, and the task's age is that of its start
  pub delays : Sample b
      (Issues (Rleas 2) ∷ (Issues (Queue 2 0) ∷ (Issues (Delay 2) ∷ (Tick ∷ (Tick ∷ [])))))
      (event Accepted 2 ∷ (event Runs 2 ∷ (event Wakened 1 ∷ (event Runs 1 ∷ []))))
  -- a held task does not run until its hold ends
  pub holds : Sample b
      (Issues (Rleas 2) ∷ (Issues (Queue 2 0) ∷ (Issues (Susp 1) ∷ (Issues (Rsum 1) ∷ []))))
      (event Accepted 2 ∷ (event Runs 2 ∷ (event Runs 1 ∷ [])))
  -- a task that is given the last level goes behind
  pub levels : Sample b
      (Issues (Rleas 2) ∷ (Issues (Queue 2 0) ∷ (Issues (Chap 1 4) ∷ [])))
      (event Accepted 2 ∷ (event Runs 2 ∷ []))
  -- a cyclic timer fires at each tick, for a dormant task too, until it is cancelled
  pub cancels : Sample b
      (Issues (Timer 2 1 1 0) ∷ (Tick ∷ (Issues (Rleas 2) ∷ (Tick ∷ (Issues (Ctime 2 0) ∷ (Tick ∷ []))))))
      (event Missed 2 ∷ (event Accepted 2 ∷ []))
  -- a task that is cut while it sleeps is not roused
  pub cuts : Sample b
      (Issues (Rleas 2) ∷ (Issues (Queue 2 0) ∷ (Issues (Delay 1) ∷ (Issues (Abort 1) ∷ (Tick ∷ [])))))
      (event Accepted 2 ∷ (event Runs 2 ∷ (event Cut 1 ∷ [])))
  -- a field out of range cuts the issuer
  pub bad_field : Sample b
      (Issues (Delay 0) ∷ [])
      (event Cut 1 ∷ (event Runs 0 ∷ []))
