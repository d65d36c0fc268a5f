-- The other obeyed calls, in the words of the laws: levels, holds, starts, the end of a start, and what the laws do not name.
use Rattle.std.proofs.Common.{◌≡◌, ℕ, ◌<◌, Bool, true, false, cond, ◌||◌, eqb, ◌⊎◌, List, [], ◌∷◌, ◌++◌, Some, None, Option, sym, refl, ap, ◌∙◌, inl, inr}
use Rattle.std.proofs.lemmas.Bool.{cases_Bool, cond-false, eqb-true, ne_eqb, ltb-true, true≢false}
use Rattle.sheet.specs.declared.event.Event.{Event}
use Rattle.sheet.specs.declared.event.Kind.TheVariants.{Accepted, Ended}
use Rattle.sheet.specs.Events.{event}
use Rattle.roll.specs.Tables.{put}
use Rattle.roll.specs.Entries.{count_of}
use Rattle.roll.proofs.Tables.{put_other}
use Rattle.table.specs.declared.wake.WakePlace.{WakePlace}
use Rattle.rules.specs.declared.answer.Code.TheVariants.{Done}
use Rattle.rules.specs.declared.call.Call.{Call}
use Rattle.rules.specs.declared.call.Call.TheVariants.{Macro as Issues}
use Rattle.rules.specs.declared.call.Macro.TheVariants.{Rleas, Abort, Chap, Gfact, Susp, Rsum, Exit}
use Rattle.rules.specs.State.{Setup, State, running as first}
use Rattle.rules.specs.Starts.{room_for, accepted, factored}
use Rattle.rules.specs.Effects.{quiet, in_tasks, ending, starting, releasing, levelling, holding, without, smallest_of, taking}
use Rattle.laws.specs.Asks.{Verb.other, asked}
use Rattle.laws.proofs.Delays.{delays_of}
use Rattle.laws.proofs.Kept.{Kept, kept_same, kept_beside, kept_accepted}
use Rattle.laws.proofs.Finishes.{kept_finished}
use Rattle.laws.proofs.Levels.{kept_levelling}
use Rattle.laws.proofs.Turns.{NoRunsNoCut, without_one}
use Rattle.laws.proofs.Steps.{Fit, Does, heard, unchanged_nil, unnamed}
use Rattle.laws.proofs.Waits.{issuer}

nothing_told : NoRunsNoCut []
nothing_told = ((λ r. refl), (λ t. refl))

-- u is registered and t is not, so they differ
differs : (b : Setup) (u t : ℕ) → b.registered u ≡ true → b.registered t ≡ false → u ≡ t → ⊥
differs b u t g q z = true≢false (sym g ∙ ap b.registered z ∙ q)

pub does_chap : (b : Setup) (s : State) (u l : ℕ) (es : List Event) → Fit b s es → b.registered u ≡ true → Does b s (Issues (Chap u l)) Done es (quiet (in_tasks s (levelling s.tasks u l)))
does_chap b s u l es f g = record {
  leaves = record {
    kept = kept_same (λ t. delays_of t s.timers) es (levelling s.tasks u l) (kept_levelling (λ t. delays_of t s.timers) es s.tasks u l f.kept);
    levels = λ t. refl;
    holds = λ t. refl;
    timers = unchanged_nil (heard (Issues (Chap u l)) Done []) s.timers refl (λ t. refl) (λ t. refl);
    few = f.few;
    untouched = λ t q. (put_other s.tasks.level u t l (differs b u t g q) ∙ (f.untouched t q).0, (f.untouched t q).1);
  };
  runner = refl;
}

kept_holding : (s : State) (u : ℕ) (h : Bool) (es : List Event) → Kept (λ t. delays_of t s.timers) es s.tasks → Kept (λ t. delays_of t s.timers) (es ++ []) (holding s.tasks u h)
kept_holding s u h es k = kept_same (λ t. delays_of t s.timers) es (holding s.tasks u h) (kept_beside (λ t. delays_of t s.timers) es s.tasks s.tasks.released s.tasks.factors (put s.tasks.roll.held u h) k.none k)

pub does_susp : (b : Setup) (s : State) (u : ℕ) (es : List Event) → Fit b s es → b.registered u ≡ true → Does b s (Issues (Susp u)) Done es (quiet (in_tasks s (holding s.tasks u true)))
does_susp b s u es f g = record {
  leaves = record {
    kept = kept_holding s u true es f.kept;
    levels = λ t. refl;
    holds = λ t. elim (eqb u t) as (λ b. cond b true (s.tasks.roll.held t) ≡ (b || s.tasks.roll.held t)) [ true ↦ refl | false ↦ refl ];
    timers = unchanged_nil (heard (Issues (Susp u)) Done []) s.timers refl (λ t. refl) (λ t. refl);
    few = f.few;
    untouched = λ t q. ((f.untouched t q).0, put_other s.tasks.roll.held u t true (differs b u t g q) ∙ (f.untouched t q).1);
  };
  runner = refl;
}

pub does_rsum : (b : Setup) (s : State) (u : ℕ) (es : List Event) → Fit b s es → b.registered u ≡ true → Does b s (Issues (Rsum u)) Done es (quiet (in_tasks s (holding s.tasks u false)))
does_rsum b s u es f g = record {
  leaves = record {
    kept = kept_holding s u false es f.kept;
    levels = λ t. refl;
    holds = λ t. refl;
    timers = unchanged_nil (heard (Issues (Rsum u)) Done []) s.timers refl (λ t. refl) (λ t. refl);
    few = f.few;
    untouched = λ t q. ((f.untouched t q).0, put_other s.tasks.roll.held u t false (differs b u t g q) ∙ (f.untouched t q).1);
  };
  runner = refl;
}

-- ---- an abort of a task that is not registered finds it as an abort would leave it
pub does_nothing : (b : Setup) (s : State) (u : ℕ) (es : List Event) → Fit b s es → b.registered u ≡ false → Does b s (Issues (Abort u)) Done es (quiet s)
does_nothing b s u es f q = record {
  leaves = record {
    kept = kept_same (λ t. delays_of t s.timers) es s.tasks f.kept;
    levels = λ t. level_by_events t (cases_Bool (eqb u t));
    holds = λ t. hold_of t (cases_Bool (eqb u t));
    timers = unchanged_nil (heard (Issues (Abort u)) Done []) s.timers refl (λ t. refl) (λ t. refl);
    few = f.few;
    untouched = f.untouched;
  };
  runner = refl;
}
  where
    level_by_events : (t : ℕ) → (eqb u t ≡ true) ⊎ (eqb u t ≡ false) → s.tasks.level t ≡ cond (eqb u t || false) (b.written t) (s.tasks.level t)
    level_by_events t (inl y) = rw y (f.untouched t (ap b.registered (sym (eqb-true u t y)) ∙ q)).0
    level_by_events t (inr y) = rw y refl

    hold_of : (t : ℕ) → (eqb u t ≡ true) ⊎ (eqb u t ≡ false) → s.tasks.roll.held t ≡ cond ((eqb u t || false) || false) false (s.tasks.roll.held t)
    hold_of t (inl y) = rw y (f.untouched t (ap b.registered (sym (eqb-true u t y)) ∙ q)).1
    hold_of t (inr y) = rw y refl

-- ---- starts
kept_start : (s : State) (u : ℕ) (es : List Event) → Kept (λ t. delays_of t s.timers) es s.tasks → 0 < u → room_for s.tasks u ≡ true → Kept (λ t. delays_of t s.timers) (es ++ (event Accepted u ∷ [])) (accepted s.tasks u)
kept_start s u es k pos room = kept_accepted (λ t. delays_of t s.timers) es s.tasks u (ltb-true (count_of u s.tasks.roll.entries) 2 room) pos k

pub does_start : (b : Setup) (s : State) (c : Call) (u : ℕ) (x : Option ℕ) (es : List Event) → Fit b s es → (asked c).verb ≡ other → 0 < u → room_for s.tasks u ≡ true → Does b s c Done es (starting s u x)
does_start b s c u None es f v pos room = unnamed b s c es (starting s u None) f v refl refl refl (without_one (event Accepted u) refl refl) (kept_start s u es f.kept pos room)
does_start b s c u (Some x) es f v pos room = unnamed b s c es (starting s u (Some x)) f v refl refl refl (without_one (event Accepted u) refl refl)
    (kept_beside (λ t. delays_of t s.timers) (es ++ (event Accepted u ∷ [])) (accepted s.tasks u) s.tasks.released (put s.tasks.factors u (put (s.tasks.factors u) x true)) s.tasks.roll.held f.kept.none
    (kept_start s u es f.kept pos room))

pub does_exit : (b : Setup) (s : State) (es : List Event) → Fit b s es → (first s.tasks ≡ 0 → ⊥) → Does b s (Issues Exit) Done es (ending s (first s.tasks))
does_exit b s es f i =
    let r = first s.tasks in
    let j = issuer s.tasks i in
    unnamed b s (Issues Exit) es (ending s r) f refl refl refl refl (without_one (event Ended r) refl refl)
    (kept_finished (λ t. delays_of t s.timers) es s.tasks r j.0 j.1 f.kept)

-- ---- released tasks, factors, wakes and the clock
pub does_rleas : (b : Setup) (s : State) (u : ℕ) (es : List Event) → Fit b s es → (u ≡ 0 → ⊥) → Does b s (Issues (Rleas u)) Done es (quiet (in_tasks s (releasing s.tasks u)))
does_rleas b s u es f p = unnamed b s (Issues (Rleas u)) es (quiet (in_tasks s (releasing s.tasks u))) f refl refl refl refl nothing_told
    (kept_same (λ t. delays_of t s.timers) es (releasing s.tasks u)
    (kept_beside (λ t. delays_of t s.timers) es s.tasks (put s.tasks.released u true) s.tasks.factors s.tasks.roll.held (cond-false (eqb u 0) true (s.tasks.released 0) (ne_eqb u 0 p) ∙ f.kept.none) f.kept))

pub does_factor : (b : Setup) (s : State) (c : Call) (u x : ℕ) (es : List Event) → Fit b s es → (asked c).verb ≡ other → Does b s c Done es (quiet (in_tasks s (factored s.tasks u x)))
does_factor b s c u x es f v = unnamed b s c es (quiet (in_tasks s (factored s.tasks u x))) f v refl refl refl nothing_told
    (kept_same (λ t. delays_of t s.timers) es (factored s.tasks u x)
    (kept_beside (λ t. delays_of t s.timers) es s.tasks s.tasks.released (put s.tasks.factors u (put (s.tasks.factors u) x true)) s.tasks.roll.held f.kept.none f.kept))

pub does_gfact : (b : Setup) (s : State) (r : ℕ) (es : List Event) → Fit b s es → Does b s (Issues Gfact) Done es (taking s r)
does_gfact b s r es f = unnamed b s (Issues Gfact) es (taking s r) f refl (levels (smallest_of s.tasks r)) (holds (smallest_of s.tasks r)) refl nothing_told
    (kept_same (λ t. delays_of t s.timers) es (without s.tasks r (smallest_of s.tasks r)) (kept (smallest_of s.tasks r)))
  where
    levels : (o : Option ℕ) → (without s.tasks r o).level ≡ s.tasks.level
    levels None = refl
    levels (Some x) = refl

    holds : (o : Option ℕ) → (without s.tasks r o).roll.held ≡ s.tasks.roll.held
    holds None = refl
    holds (Some x) = refl

    kept : (o : Option ℕ) → Kept (λ t. delays_of t s.timers) es (without s.tasks r o)
    kept None = f.kept
    kept (Some x) = kept_beside (λ t. delays_of t s.timers) es s.tasks s.tasks.released (put s.tasks.factors r (put (s.tasks.factors r) x false)) s.tasks.roll.held f.kept.none f.kept

pub does_clock : (b : Setup) (s : State) (c : Call) (es : List Event) (ws : List WakePlace) (n : ℕ) → Fit b s es → (asked c).verb ≡ other → Does b s c Done es (quiet (record { tasks = s.tasks; timers = s.timers; wakes = ws; clock = n }))
does_clock b s c es ws n f v = unnamed b s c es (quiet (record { tasks = s.tasks; timers = s.timers; wakes = ws; clock = n })) f v refl refl refl nothing_told (kept_same (λ t. delays_of t s.timers) es s.tasks f.kept)
