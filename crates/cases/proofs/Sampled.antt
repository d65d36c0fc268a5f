-- The samples: what the rules tell is computed, and the laws follow from the theorem on every history.
use Rattle.std.proofs.Common.{◌≡◌, ℕ, ◌≤◌, leb, List, [], ◌∷◌, ◌++◌, refl, arith}
use Rattle.std.proofs.lemmas.Bool.{and_parts, leb-true}
use Rattle.sheet.specs.declared.event.Event.{Event}
use Rattle.rules.specs.declared.call.Call.{Call}
use Rattle.rules.specs.State.{Setup, State}
use Rattle.rules.specs.Calls.{called, started}
use Rattle.laws.specs.Histories.{History, History.powered, History.then, Reached, Reached.on, Reached.by, events, begun}
use Rattle.laws.specs.Laws.{Numbered}
use Rattle.laws.proofs.Always.{always}
use Rattle.cases.specs.Made.{alike, comes, history_from, state_from, made, made_state}
use Rattle.cases.specs.Samples.{Sample, Samples}
use Rattle.cases.specs.Notions.{Notions}

numbered : (l : ℕ) → Numbered (alike l)
numbered l t h = let p = and_parts (leb 1 t) (leb t 4) h in (leb-true 1 t p.0, (let q = leb-true t 4 p.1 in let z : t ≤ 127 = omega arith in z))

reached : (b : Setup) (h : History) (s : State) (cs : List Call) → Reached b h s → Reached b (history_from b h s cs) (state_from b s cs)
reached b h s [] r = r
reached b h s (c ∷ cs) r = reached b (then h (comes b s c)) (called b s c 100).state cs (by r (record { state = refl; answer = refl; told = refl }))

sample : (l : ℕ) (cs : List Call) (told : List Event) → events (made (alike l) cs) ≡ begun ++ told → Sample (alike l) cs told
sample l cs told e =
    let r = reached (alike l) powered (started (alike l)) cs on in
    record { tells = e; reached = r; laws = always (alike l) (numbered l) (made (alike l) cs) (made_state (alike l) cs) r }

pub samples : Samples (alike 2)
samples = record {
  preempts = sample 2 _ _ refl;
  twice = sample 2 _ _ refl;
  delays = sample 2 _ _ refl;
  holds = sample 2 _ _ refl;
  levels = sample 2 _ _ refl;
  cancels = sample 2 _ _ refl;
  cuts = sample 2 _ _ refl;
  bad_field = sample 2 _ _ refl;
}

pub notions : Notions (alike 2)
notions = record {
  first = refl;
  second = refl;
  runs = refl;
  sleeps = refl;
  wakes = refl;
  cut = refl;
  gone = refl;
  raised = refl;
  written = refl;
  holds = refl;
  freed = refl;
  barred = refl;
  stand = refl;
  cancelled = refl;
  fired = refl;
}
