-- Every step of a book is one or two calls, so a history goes on over it.
use Rattle.std.proofs.Common.{◌≡◌, ℕ, zero, suc, Bool, true, false, cond, eqb, List, [], ◌++◌, length, Some, None, Option, sym, refl, ap, ◌∙◌, subst, append_assoc}
use Rattle.std.proofs.lemmas.List.{append-nil}
use Rattle.sheet.specs.declared.event.Event.{Event}
use Rattle.book.specs.Verdict.{told, clean}
use Rattle.book.proofs.Clean.{registered_range}
use Rattle.rules.specs.declared.call.Call.{Call}
use Rattle.rules.specs.declared.call.Call.TheVariants.{Macro as Issues, Tick}
use Rattle.rules.specs.declared.call.Macro.TheVariants.{Exit}
use Rattle.rules.specs.State.{Setup, Station}
use Rattle.rules.specs.Calls.{called}
use Rattle.laws.specs.Histories.{Seen, History, History.powered, History.then, Reached, Reached.on, Reached.by, events}
use Rattle.laws.proofs.Always.{always}
use Rattle.station.specs.Views.{setup_in}
use Rattle.runner.specs.declared.instruction.Instruction.{Instruction}
use Rattle.runner.specs.declared.instruction.Instruction.TheVariants.{Macro as MacroRow, Jump}
use Rattle.runner.specs.declared.positions.Position.{Position}
use Rattle.runner.specs.Scripts.{Progress, Outcome, asked, calling, does, nothing, acted, processor, instruction_of, row_done, tick_done, stepped}
use Rattle.runner.specs.Listing.{powered_up, progress_after}
use Rattle.runner.specs.Lives.{told_by, Lived}

-- a history h goes on over what was done, o
record Onward (b : Setup) (h : History) (o : Outcome) : Type 0 where
  later : History
  setup : o.progress.station.setup ≡ b
  reached : Reached b later o.progress.station.state
  tells : events later ≡ events h ++ o.told

-- what is seen of a call on a sheet of a hundred records
abbrev saw : Station → Call → Seen
saw s c = record {
  call = c;
  room = 100;
  answer = record { code = (called s.setup s.state c 100).code; told = length (called s.setup s.state c 100).told; factor = (called s.setup s.state c 100).factor };
  told = (called s.setup s.state c 100).told;
}

calling_on : (b : Setup) (h : History) (s : Station) (ps : ℕ → Position) (c : Call) → s.setup ≡ b → Reached b h s.state → Onward b h (calling s ps c)
unfolding asked
calling_on b h s ps c e r =
    subst (λ (x : Setup). Reached x h s.state → Onward x h (calling s ps c)) e
    (λ q. record { later = then h (saw s c); setup = refl; reached = by q (record { state = refl; answer = refl; told = refl }); tells = refl }) r

module _ (b : Setup) (h : History) (p : Progress) (e : p.station.setup ≡ b) (r : Reached b h p.station.state) where
  nothing_on : (ps : ℕ → Position) → Onward b h (record { progress = record { station = p.station; positions = ps }; told = [] })
  nothing_on ps = record { later = h; setup = e; reached = r; tells = sym (append-nil (events h)) }

  does_on : (t : ℕ) (o : Option Instruction) → Onward b h (does p t o)
  does_on t None = calling_on b h p.station p.positions (Issues Exit) e r
  does_on t (Some (MacroRow m)) = calling_on b h p.station _ (Issues m) e r
  does_on t (Some (Jump x n)) = nothing_on _

  acted_by : (bytes : List ℕ) (t : ℕ) (z : Bool) → Onward b h (cond z (nothing p) (does p t (instruction_of bytes t (p.positions t).row)))
  acted_by bytes t true = nothing_on p.positions
  acted_by bytes t false = does_on t (instruction_of bytes t (p.positions t).row)

  acted_on : (bytes : List ℕ) (t : ℕ) → Onward b h (acted bytes p t)
  acted_on bytes t = acted_by bytes t (eqb t 0)

  row_on : (bytes : List ℕ) → Onward b h (row_done bytes p)
  unfolding row_done
  row_on bytes = acted_on bytes (processor p.station)

  tick_on : Onward b h (tick_done p)
  unfolding tick_done
  tick_on = calling_on b h p.station p.positions Tick e r

step_on : (b : Setup) (h : History) (p : Progress) (bytes : List ℕ) → p.station.setup ≡ b → Reached b h p.station.state → Onward b h (stepped bytes p)
unfolding stepped
step_on b h p bytes e r =
    let row = row_on b h p e r bytes in
    let tick = tick_on b row.later (row_done bytes p).progress row.setup row.reached in
    record {
      later = tick.later;
      setup = tick.setup;
      reached = tick.reached;
      tells = tick.tells ∙ ap (λ (l : List Event). l ++ (tick_done (row_done bytes p).progress).told) row.tells
          ∙ append_assoc (events h) (row_done bytes p).told (tick_done (row_done bytes p).progress).told;
    }

module _ (lever : Bool) (b : List ℕ) (sound : clean (told b) ≡ true) where
  -- the same of the steps so far
  record Along (n : ℕ) : Type 0 where
    history : History
    setup : (progress_after lever b n).station.setup ≡ setup_in lever b
    reached : Reached (setup_in lever b) history (progress_after lever b n).station.state
    tells : events history ≡ told_by lever b n

  along : (n : ℕ) → Along n
  unfolding progress_after powered_up told_by
  along zero = record { history = powered; setup = refl; reached = on; tells = refl }
  along (suc n) =
      let w = along n in
      let s = step_on (setup_in lever b) w.history (progress_after lever b n) b w.setup w.reached in
      record {
        history = s.later;
        setup = s.setup;
        reached = s.reached;
        tells = s.tells ∙ ap (λ (l : List Event). l ++ (stepped b (progress_after lever b n)).told) w.tells;
      }

  pub lived : (n : ℕ) → Lived lever b n
  lived n =
      let w = along n in
      record {
        history = w.history;
        reached = w.reached;
        tells = w.tells;
        laws = always (setup_in lever b) (λ t e. registered_range b t sound e) w.history (progress_after lever b n).station.state w.reached;
      }
