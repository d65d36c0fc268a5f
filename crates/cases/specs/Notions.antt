-- What the notions of the laws are worth in sample runs.
use Rattle.std.specs.Prelude.{◌≡◌, true, false, List, [], ◌∷◌}
use Rattle.rules.specs.declared.call.Call.{Call}
use Rattle.rules.specs.declared.call.Call.TheVariants.{Macro as Issues, Tick}
use Rattle.rules.specs.declared.call.Macro.TheVariants.{Rleas, Queue, Abort, Delay, Timer, Ctime, Chap, Susp}
use Rattle.rules.specs.State.{Setup}
use Rattle.laws.specs.Laws.{running, level, held, age, live, asleep}
use Rattle.cases.specs.Made.{made}

-- task 2 has a start behind that of task 1
abbrev pub both : List Call → List Call
both cs = Issues (Rleas 2) ∷ (Issues (Queue 2 0) ∷ cs)

pub record Notions (b : Setup) : Type 0 where
  -- power-up's start has the place 0; that of task 2 the place 2, behind power-up's two events
  pub first : age 1 (made b []) ≡ 0
  pub second : age 2 (made b (both [])) ≡ 2
  pub runs : running (made b (both [])) ≡ 1
  -- a delay of 2, after one tick and after two
  pub sleeps : asleep 1 (made b (both (Issues (Delay 2) ∷ (Tick ∷ [])))) [] ≡ true
  pub wakes : asleep 1 (made b (both (Issues (Delay 2) ∷ (Tick ∷ (Tick ∷ []))))) [] ≡ false
  -- a cut delay
  pub cut : asleep 1 (made b (both (Issues (Delay 2) ∷ (Issues (Abort 1) ∷ [])))) [] ≡ false
  pub gone : live (made b (both (Issues (Delay 2) ∷ (Issues (Abort 1) ∷ [])))) [] ≡ 0
  -- a level, and the written one after an abort
  pub raised : level b 2 (made b (both (Issues (Chap 2 3) ∷ []))) ≡ 3
  pub written : level b 2 (made b (both (Issues (Chap 2 3) ∷ (Issues (Abort 2) ∷ [])))) ≡ b.written 2
  -- a hold, its end by an abort, and by a field out of range of its own
  pub holds : held 2 (made b (both (Issues (Susp 2) ∷ []))) ≡ true
  pub freed : held 2 (made b (both (Issues (Susp 2) ∷ (Issues (Abort 2) ∷ [])))) ≡ false
  pub barred : level b 1 (made b (both (Issues (Chap 1 1) ∷ (Issues (Delay 0) ∷ [])))) ≡ b.written 1
  -- timers: two live, one cancelled, one gone by itself
  pub stand : live (made b (Issues (Timer 2 5 0 3) ∷ (Issues (Timer 2 1 0 4) ∷ []))) [] ≡ 2
  pub cancelled : live (made b (Issues (Timer 2 5 0 3) ∷ (Issues (Timer 2 1 0 4) ∷ (Issues (Ctime 2 3) ∷ [])))) [] ≡ 1
  pub fired : live (made b (Issues (Timer 2 5 0 3) ∷ (Issues (Timer 2 1 0 4) ∷ (Tick ∷ [])))) [] ≡ 1
