-- A roused task has the age of its start.
use Rattle.std.proofs.Common.{◌≡◌, ℕ, ◌≤◌, Bool, false, List, [], ◌∷◌, ◌++◌, Some, None, Option, sym, refl, ap, ◌∙◌, subst, lit<}
use Rattle.std.proofs.lemmas.Bool.{le-ltb}
use Rattle.sheet.specs.declared.event.Kind.TheVariants.{Wakened, Runs}
use Rattle.sheet.specs.Events.{event}
use Rattle.roll.specs.declared.entry.Entry.{Entry}
use Rattle.roll.specs.Entries.{awake}
use Rattle.roll.specs.Tables.{none}
use Rattle.table.specs.declared.firing.Firing.{Firing}
use Rattle.table.specs.declared.timer.TimerPlace.{TimerPlace}
use Rattle.table.specs.declared.wake.WakePlace.{WakePlace}
use Rattle.table.specs.Rows.{firings, all_fired, all_told}
use Rattle.table.specs.Timers.{timer_fires}
use Rattle.rules.specs.declared.answer.Code.TheVariants.{Done}
use Rattle.rules.specs.declared.call.Call.TheVariants.{Tick}
use Rattle.rules.specs.declared.call.Macro.TheVariants.{Delay}
use Rattle.rules.specs.State.{Setup, State, running}
use Rattle.rules.specs.Starts.{fired, tells}
use Rattle.rules.specs.Tables.{timers_full, wake_firings, reached, tasks_after_timers, ticked, tick_events}
use Rattle.rules.specs.Effects.{sleeping, telling}
use Rattle.rules.specs.Refusals.{Step, settled, short, no_place, turn}
use Rattle.rules.specs.Calls.{called}
use Rattle.cases.specs.Edges.{number, issued, Issuer, Pair, KeepsAge}
use Rattle.cases.proofs.Walks.{passes, own_checks}

-- no wake fires nothing, whatever the time
no_wakes : (o : Option ℕ) → wake_firings o [] ≡ []
no_wakes None = refl
no_wakes (Some n) = refl

-- s with other entries, holds and tables
abbrev made : State → List Entry → (ℕ → Bool) → List TimerPlace → List WakePlace → State
made s es h ts ws = record {
  tasks = record { released = s.tasks.released; level = s.tasks.level; factors = s.tasks.factors; roll = record { entries = es; held = h } };
  timers = ts;
  wakes = ws;
  clock = s.clock;
}

abbrev two : List Entry
two = awake 3 2 ∷ (awake 4 2 ∷ [])

whole : (s : State) → Pair s → s ≡ made s two none [] []
whole s p =
    ap (λ (es : List Entry). made s es s.tasks.roll.held s.timers s.wakes) p.entries
    ∙ ap (λ (h : ℕ → Bool). made s two h s.timers s.wakes) p.free
    ∙ ap (λ (ts : List TimerPlace). made s two none ts s.wakes) p.timers
    ∙ ap (λ (ws : List WakePlace). made s two none [] ws) p.wakes

aged : (b : Setup) (q : State) (room : ℕ) → 100 ≤ room
    → KeepsAge (issued b room (made q two none [] []) (Delay 1)) (called b (issued b room (made q two none [] []) (Delay 1)).state Tick room)
aged b q room l = record {
  answer = ap number e;
  gives = ap (λ (k : Step). k.told) e;
  back = ap (λ (k : Step). (called b k.state Tick room).told) e ∙ ap (λ (k : Step). k.told) f ∙ g;
}
  where
    i : Issuer (made q two none [] []) 3 room
    i = record { task = lit< tt; first = refl; sheet = l }

    n : State
    n = (sleeping (made q two none [] []) 3 1).state

    e : issued b room (made q two none [] []) (Delay 1) ≡ settled (made q two none [] []) Done (sleeping (made q two none [] []) 3 1)
    e = own_checks b (made q two none [] []) 3 room i (Delay 1) refl
        ∙ passes (no_place b (made q two none [] []) (timers_full (made q two none [] []))) [] (settled (made q two none [] []) Done (sleeping (made q two none [] []) 3 1)) refl

    f : called b n Tick room ≡ settled n Done (telling (ticked n) (tick_events n))
    f = passes (short b n room) [] (settled n Done (telling (ticked n) (tick_events n))) (le-ltb room 100 l)

    g : (settled n Done (telling (ticked n) (tick_events n))).told ≡ event Wakened 3 ∷ (event Runs 3 ∷ [])
    g = ap (λ (fs : List Firing). (all_told fired tells n.tasks (firings timer_fires n.timers) ++ all_told fired tells (tasks_after_timers n) fs) ++ turn (running n.tasks) false (running (all_fired fired (tasks_after_timers n) fs))) (no_wakes (reached n))

pub keeps_age : (b : Setup) (s : State) (room : ℕ) → 100 ≤ room → Pair s → KeepsAge (issued b room s (Delay 1)) (called b (issued b room s (Delay 1)).state Tick room)
keeps_age b s room l p = subst (λ (z : State). KeepsAge (issued b room z (Delay 1)) (called b (issued b room z (Delay 1)).state Tick room)) (sym (whole s p)) (aged b s room l)
