-- The cut of a task's starts, by an abort or for a field out of range, in the words of the laws.
use Rattle.std.proofs.Common.{◌≡◌, ℕ, ◌+◌, ◌<◌, ◌≤◌, Bool, true, false, cond, not, ◌&&◌, ◌||◌, eqb, ltb, ◌⊎◌, List, [], ◌∷◌, ◌++◌, length, filter, sym, refl, ap, ◌∙◌, inl, inr, arith}
use Rattle.std.specs.List.{flat_map}
use Rattle.std.proofs.lemmas.Bool.{cases_Bool, cases_lt, cond_both, cond-true, cond-false, eqb-true, eqb-false, eq-eqb, ne_eqb, lt-ltb}
use Rattle.std.proofs.lemmas.List.{append-nil}
use Rattle.sheet.specs.declared.event.Event.{Event}
use Rattle.sheet.specs.declared.event.Kind.TheVariants.{Cut}
use Rattle.roll.specs.Tables.{put}
use Rattle.roll.specs.Entries.{count_of}
use Rattle.table.specs.declared.timer.TimerPlace.{TimerPlace}
use Rattle.table.specs.declared.selection.Selection.TheVariants.{Delay}
use Rattle.rules.specs.declared.answer.Code.{Code}
use Rattle.rules.specs.declared.call.Call.{Call}
use Rattle.rules.specs.State.{Setup, State, running as first}
use Rattle.rules.specs.Starts.{cut_events}
use Rattle.rules.specs.Tables.{timers_without}
use Rattle.rules.specs.Effects.{cutting}
use Rattle.laws.specs.Asks.{Verb.tick, Verb.ctime, Verb.chap, Verb.susp, Verb.rsum, asked, does, does_to, aborts}
use Rattle.laws.specs.Laws.{one, tally}
use Rattle.laws.proofs.Marks.{marks_of, count_marks}
use Rattle.laws.proofs.Delays.{delay_of, delays_of, delays_cut, Fits}
use Rattle.laws.proofs.Timers.{after, beaten, placed}
use Rattle.laws.proofs.Finishes.{tally_cuts, kept_stripped}
use Rattle.laws.proofs.Turns.{runs_cuts}
use Rattle.laws.proofs.Steps.{Fit, Does, heard, joined_ext, joined_kept, unchanged}
use Rattle.laws.proofs.Waits.{length_kept}

no_delays : (t : ℕ) (ps : List TimerPlace) → delays_of t ps ≡ 0 → filter (λ p. not (delay_of t p)) ps ≡ ps
no_delays t [] h = refl
no_delays t (p ∷ ps) h = go (delay_of t p) h (λ k. no_delays t ps k)
  where
    go : (b : Bool) → one b + delays_of t ps ≡ 0 → (delays_of t ps ≡ 0 → filter (λ p. not (delay_of t p)) ps ≡ ps) → cond (not b) (p ∷ filter (λ p. not (delay_of t p)) ps) (filter (λ p. not (delay_of t p)) ps) ≡ p ∷ ps
    go true h i = absurd (let z : ⊥ = omega arith in z)
    go false h i = ap (λ (l : List TimerPlace). p ∷ l) (i (omega arith))

-- a task without starts has no delay
fits_none : (l : List Bool) (n : ℕ) → Fits l n → length l ≡ 0 → n ≡ 0
fits_none [] n g h = g
fits_none (b ∷ bs) n g h = absurd (let z : ⊥ = omega arith in z)

cut_place : (L X B C Y T : Bool) (l m : List TimerPlace) → X ≡ B → C ≡ false → T ≡ false → cond (L && X) [] (cond (not L && (C && Y)) [] (cond T m l)) ≡ cond (L && B) [] l
cut_place true X B C Y T l m x c t = rw (x, t) refl
cut_place false X B C Y T l m x c t = rw (c, t) refl

cut_test : (n u t : ℕ) → 0 < n → ltb 0 (cond (eqb u t) n 0) ≡ eqb t u
cut_test n u t h = go (cases_Bool (eqb u t))
  where
    go : (eqb u t ≡ true) ⊎ (eqb u t ≡ false) → ltb 0 (cond (eqb u t) n 0) ≡ eqb t u
    go (inl y) = rw y (lt-ltb 0 n h ∙ sym (eq-eqb t u (sym (eqb-true u t y))))
    go (inr y) = rw y (sym (ne_eqb t u (λ q. eqb-false u t y (sym q))))

-- the call c of the issuer, answered k, aborts u and is nothing else that the laws name
pub record Aborts (s : State) (c : Call) (k : Code) (u : ℕ) : Type 0 where
  pub cuts : (t : ℕ) → aborts (first s.tasks) t (heard c k []) ≡ eqb u t
  pub levels : (t : ℕ) → does_to chap t (heard c k []) ≡ false
  pub holds : (t : ℕ) → does_to susp t (heard c k []) ≡ false
  pub frees : (t : ℕ) → does_to rsum t (heard c k []) ≡ false
  pub cancels : (t : ℕ) → does_to ctime t (heard c k []) ≡ false
  pub ticks : does tick (heard c k []) ≡ false
  pub sets : placed (first s.tasks) (heard c k []) [] ≡ []

pub does_cut : (b : Setup) (s : State) (c : Call) (k : Code) (es : List Event) (u r : ℕ) → Fit b s es → Aborts s c k u → Does b s c k es (cutting b s u r)
does_cut b s c k es u r f a =
    record {
      leaves = record {
        kept = kept_stripped (λ t. delays_of t s.timers) (λ t. delays_of t (timers_without s (Delay u))) es s.tasks u (b.written u) (λ t. delays_cut u t s.timers) f.kept;
        levels = λ t. level_by_events t (cases_Bool (eqb u t));
        holds = λ t. rw (a.cuts t, a.frees t, a.holds t) (elim (eqb u t) as (λ x. cond x false (s.tasks.roll.held t) ≡ cond (x || false) false (s.tasks.roll.held t)) [ true ↦ refl | false ↦ refl ]);
        timers = places (cases_lt 0 (count_of u s.tasks.roll.entries));
        few = (let x = length_kept (λ p. not (delay_of u p)) s.timers in let d = f.few in omega arith);
        untouched = λ t q. untouched_of t q (cases_Bool (eqb u t));
      };
      runner = runs_cuts (first s.tasks) (count_of u s.tasks.roll.entries) u;
    }
  where
    level_by_events : (t : ℕ) → (eqb u t ≡ true) ⊎ (eqb u t ≡ false) → put s.tasks.level u (b.written u) t ≡ cond (aborts (first s.tasks) t (heard c k [])) (b.written t) (cond (does_to chap t (heard c k [])) (asked c).x (s.tasks.level t))
    level_by_events t (inl y) = rw (a.cuts t, y) (ap b.written (eqb-true u t y))
    level_by_events t (inr y) = rw (a.cuts t, a.levels t, y) refl

    untouched_of : (t : ℕ) → b.registered t ≡ false → (eqb u t ≡ true) ⊎ (eqb u t ≡ false) → (put s.tasks.level u (b.written u) t ≡ b.written t) × (put s.tasks.roll.held u false t ≡ false)
    untouched_of t q (inl y) = (cond-true (eqb u t) (b.written u) (s.tasks.level t) y ∙ ap b.written (eqb-true u t y), cond-true (eqb u t) false (s.tasks.roll.held t) y)
    untouched_of t q (inr y) = (cond-false (eqb u t) (b.written u) (s.tasks.level t) y ∙ (f.untouched t q).0, cond-false (eqb u t) false (s.tasks.roll.held t) y ∙ (f.untouched t q).1)

    no_more : flat_map (after (heard c k (cut_events s.tasks u))) s.timers ++ placed (first s.tasks) (heard c k (cut_events s.tasks u)) [] ≡ flat_map (after (heard c k (cut_events s.tasks u))) s.timers
    no_more = ap (λ (l : List TimerPlace). flat_map (after (heard c k (cut_events s.tasks u))) s.timers ++ l) a.sets ∙ append-nil (flat_map (after (heard c k (cut_events s.tasks u))) s.timers)

    places : (0 < count_of u s.tasks.roll.entries) ⊎ (count_of u s.tasks.roll.entries ≤ 0) → timers_without s (Delay u) ≡ flat_map (after (heard c k (cut_events s.tasks u))) s.timers ++ placed (first s.tasks) (heard c k (cut_events s.tasks u)) []
    places (inl h) = sym (no_more
        ∙ joined_ext (after (heard c k (cut_events s.tasks u))) (λ p. cond (delay_of u p) [] (p ∷ [])) s.timers
        (λ p. cut_place p.delay (ltb 0 (tally Cut p.task (cut_events s.tasks u))) (eqb p.task u) (does_to ctime p.task (heard c k [])) (eqb (asked c).x p.factor) (does tick (heard c k [])) (p ∷ []) (beaten p)
        (ap (λ n. ltb 0 n) (tally_cuts (count_of u s.tasks.roll.entries) u p.task) ∙ cut_test (count_of u s.tasks.roll.entries) u p.task h) (a.cancels p.task) a.ticks)
        ∙ joined_kept (delay_of u) s.timers)
    places (inr h) = sym (no_more
        ∙ unchanged (heard c k (cut_events s.tasks u)) s.timers a.ticks a.cancels
        (λ t. tally_cuts (count_of u s.tasks.roll.entries) u t ∙ cond_both (eqb u t) (count_of u s.tasks.roll.entries) 0 (λ n. n ≡ 0) (λ _. (let z : count_of u s.tasks.roll.entries ≡ 0 = omega arith in z)) (λ _. refl))
        ∙ sym (no_delays u s.timers (fits_none (marks_of u s.tasks.roll.entries) (delays_of u s.timers) (f.kept.marks u) (let x = count_marks u s.tasks.roll.entries in omega arith))))
