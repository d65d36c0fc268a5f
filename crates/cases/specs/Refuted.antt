-- Histories of wrong stations: whatever state such a station claims to be in, a law is broken.
use Rattle.std.specs.Prelude.{ℕ, zero, suc, List, [], ◌∷◌, length}
use Rattle.sheet.specs.declared.event.Event.{Event}
use Rattle.sheet.specs.declared.event.Kind.TheVariants.{Accepted, Ended, Cut, Wakened, Runs}
use Rattle.sheet.specs.Events.{event}
use Rattle.rules.specs.declared.answer.Code.{Code}
use Rattle.rules.specs.declared.answer.Code.TheVariants.{Done, TableFull}
use Rattle.rules.specs.declared.call.Call.{Call}
use Rattle.rules.specs.declared.call.Call.TheVariants.{Macro as Issues, Tick, Coil}
use Rattle.rules.specs.declared.call.Macro.TheVariants.{Rleas, Queue, Abort, Delay, Timer, Ctime, Chap, Susp, Exit}
use Rattle.rules.specs.State.{Setup, State}
use Rattle.laws.specs.Histories.{Seen, History, History.powered, History.then}
use Rattle.laws.specs.Laws.{Laws}

-- a call with a sheet of 100 records, the code that it is answered, and what it tells
abbrev pub told : Call → Code → List Event → Seen
told c k es = record { call = c; room = 100; answer = record { code = k; told = length es; factor = 0 }; told = es }

-- a call that is obeyed and tells nothing
abbrev pub obeyed : Call → Seen
obeyed c = told c Done []

abbrev pub timer : Call
timer = Issues (Timer 2 5 0 3)

-- so many timers set after h
abbrev pub timers : ℕ → History → History
timers zero h = h
timers (suc n) h = then (timers n h) (obeyed timer)

-- task 2 has a start behind that of task 1
abbrev pub both : History
both = then (then powered (obeyed (Issues (Rleas 2)))) (told (Issues (Queue 2 0)) Done (event Accepted 2 ∷ []))

-- the laws refute it in every state
abbrev pub Wrong : Setup → History → Type 0
Wrong b h = (s : State) → Laws b h s → ⊥

pub record Refuted (b : Setup) : Type 0 where
  -- of two starts of task 2 only one is done
  pub lost : Wrong b (then (then (then both (told (Coil 2) Done (event Accepted 2 ∷ []))) (told (Issues Exit) Done (event Ended 1 ∷ (event Runs 2 ∷ [])))) (told (Issues Exit) Done (event Ended 2 ∷ (event Runs 0 ∷ []))))
  -- one start is ended twice
  pub twice : Wrong b (then powered (told (Issues Exit) Done (event Ended 1 ∷ (event Ended 1 ∷ (event Runs 0 ∷ [])))))
  -- a third start is accepted behind two
  pub third : Wrong b (then (then both (told (Coil 2) Done (event Accepted 2 ∷ []))) (told (Coil 2) Done (event Accepted 2 ∷ [])))
  -- of two tasks of one level the youngest is picked
  pub youngest : Wrong b (then (then powered (obeyed (Issues (Rleas 2)))) (told (Issues (Queue 2 0)) Done (event Accepted 2 ∷ (event Runs 2 ∷ []))))
  -- idle, while task 2 has a start
  pub idle : Wrong b (then both (told (Issues Exit) Done (event Ended 1 ∷ (event Runs 0 ∷ []))))
  -- a held task goes on
  pub held : Wrong b (then both (obeyed (Issues (Susp 1))))
  -- a delay of 2 is over after one tick
  pub early : Wrong b (then (then both (told (Issues (Delay 2)) Done (event Runs 2 ∷ []))) (told Tick Done (event Wakened 1 ∷ (event Runs 1 ∷ []))))
  -- a delay of 1 is not over after one tick
  pub late : Wrong b (then (then both (told (Issues (Delay 1)) Done (event Runs 2 ∷ []))) (obeyed Tick))
  -- the level from before an abort: task 2 takes the processor with the level 0
  pub stale : Wrong b (then (then (then (then (then powered (obeyed (Issues (Rleas 2)))) (obeyed (Issues (Chap 2 0)))) (obeyed (Issues (Abort 2)))) (obeyed (Issues (Rleas 2)))) (told (Issues (Queue 2 0)) Done (event Accepted 2 ∷ (event Runs 2 ∷ []))))
  -- full is said with 63 live
  pub full_early : Wrong b (then (timers 63 powered) (told timer TableFull []))
  -- a 65th is accepted
  pub never_full : Wrong b (then (timers 64 powered) (obeyed timer))
  -- a delay that was cut is still counted
  pub cut_counted : Wrong b (then (then (then (timers 63 both) (told (Issues (Delay 9)) Done (event Runs 2 ∷ []))) (told (Issues (Abort 1)) Done (event Cut 1 ∷ []))) (told timer TableFull []))
  -- a ctime frees nothing
  pub not_freed : Wrong b (then (then (timers 64 powered) (obeyed (Issues (Ctime 2 3)))) (told (Issues (Delay 1)) TableFull []))
  -- timers that have gone keep their places
  pub not_gone : Wrong b (then (then (then (then (then (then (timers 64 powered) (obeyed Tick)) (obeyed Tick)) (obeyed Tick)) (obeyed Tick)) (obeyed Tick)) (told (Issues (Delay 1)) TableFull []))
