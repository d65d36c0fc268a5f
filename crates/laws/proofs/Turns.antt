-- What `runs`, told last, adds to the events of a call.
use Rattle.std.proofs.Common.{◌≡◌, ℕ, zero, suc, Bool, false, cond, not, ◌&&◌, eqb, List, [], ◌∷◌, ◌++◌, replicate, refl, ap, ◌∙◌, subst, append_assoc, arith}
use Rattle.std.proofs.lemmas.Bool.{cond_both, cond-false, eqb-true, and_parts}
use Rattle.sheet.specs.declared.event.Event.{Event}
use Rattle.sheet.specs.declared.event.Kind.TheVariants.{Accepted, Missed, Cut, Wakened, Runs}
use Rattle.sheet.specs.Events.{event}
use Rattle.table.specs.declared.firing.Firing.{Firing}
use Rattle.table.specs.declared.firing.Firing.TheVariants.{Start, Rouse}
use Rattle.table.specs.Rows.{all_told}
use Rattle.rules.specs.State.{Tasks}
use Rattle.rules.specs.Starts.{takes, fired, tells}
use Rattle.rules.specs.Refusals.{turn}
use Rattle.laws.specs.Laws.{is_of, one, tally, last_runs}
use Rattle.laws.proofs.Starts.{tally_append}
use Rattle.laws.proofs.Kept.{Kept, kept_same, kept_told}

pub last_append : (r : ℕ) (xs ys : List Event) → last_runs r (xs ++ ys) ≡ last_runs (last_runs r xs) ys
last_append r [] ys = refl
last_append r (x ∷ xs) ys = last_append (cond (is_of Runs x) x.task r) xs ys

module _ (was : ℕ) (over : Bool) (is : ℕ) where
  pub kept_turn : (m : ℕ → ℕ) (es told : List Event) (s : Tasks) → Kept m (es ++ told) s → Kept m (es ++ (told ++ turn was over is)) s
  kept_turn m es told s k = subst (λ l. Kept m l s) (append_assoc es told (turn was over is))
      (cond_both (eqb was is && not over) [] (event Runs is ∷ []) (λ (l : List Event). Kept m ((es ++ told) ++ l) s)
      (λ _. kept_same m (es ++ told) s k) (λ _. kept_told m (es ++ told) s (event Runs is) refl refl refl k))

  pub runs_turn : (told : List Event) → last_runs was told ≡ was → last_runs was (told ++ turn was over is) ≡ is
  runs_turn told h = last_append was told (turn was over is) ∙ ap (λ r. last_runs r (turn was over is)) h
      ∙ cond_both (eqb was is && not over) [] (event Runs is ∷ []) (λ (l : List Event). last_runs was l ≡ is)
      (λ e. eqb-true was is (and_parts (eqb was is) (not over) e).0) (λ _. refl)

  pub cuts_turn : (told : List Event) (t : ℕ) → tally Cut t (told ++ turn was over is) ≡ tally Cut t told
  cuts_turn told t =
      let a = tally_append Cut t told (turn was over is) in
      let z : tally Cut t (turn was over is) ≡ 0 = cond_both (eqb was is && not over) [] (event Runs is ∷ []) (λ (l : List Event). tally Cut t l ≡ 0) (λ _. refl) (λ _. refl) in
      omega arith

-- ---- events that are neither runs nor cut
abbrev pub NoRunsNoCut : List Event → Type 0
NoRunsNoCut es = ((r : ℕ) → last_runs r es ≡ r) × ((t : ℕ) → tally Cut t es ≡ 0)

pub without_append : (xs ys : List Event) → NoRunsNoCut xs → NoRunsNoCut ys → NoRunsNoCut (xs ++ ys)
without_append xs ys a b = ((λ r. last_append r xs ys ∙ ap (λ q. last_runs q ys) (a.0 r) ∙ b.0 r), (λ t. (let c = tally_append Cut t xs ys in let u = a.1 t in let v = b.1 t in omega arith)))

pub without_one : (d : Event) → is_of Runs d ≡ false → is_of Cut d ≡ false → NoRunsNoCut (d ∷ [])
without_one d a b = ((λ r. cond-false (is_of Runs d) d.task r a), (λ t. (let j : one (is_of Cut d && eqb d.task t) ≡ 0 = ap (λ z. one (z && eqb d.task t)) b in omega arith)))

firing_tells : (s : Tasks) (f : Firing) → NoRunsNoCut (tells s f ∷ [])
firing_tells s (Start t x) = cond_both (takes s t) (event Accepted t) (event Missed t) (λ (d : Event). NoRunsNoCut (d ∷ [])) (λ _. without_one (event Accepted t) refl refl) (λ _. without_one (event Missed t) refl refl)
firing_tells s (Rouse t) = without_one (event Wakened t) refl refl

pub firings_tell : (s : Tasks) (fs : List Firing) → NoRunsNoCut (all_told fired tells s fs)
firings_tell s [] = ((λ r. refl), (λ t. refl))
firings_tell s (f ∷ fs) = without_append (tells s f ∷ []) (all_told fired tells (fired s f) fs) (firing_tells s f) (firings_tell (fired s f) fs)

pub runs_cuts : (r n t : ℕ) → last_runs r (replicate n (event Cut t)) ≡ r
runs_cuts r zero t = refl
runs_cuts r (suc n) t = runs_cuts r n t
