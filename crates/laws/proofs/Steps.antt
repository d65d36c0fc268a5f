-- What one call does, in the words of the laws: what is to be shown of an effect, and that `runs` adds nothing to it.
use Rattle.std.proofs.Common.{◌≡◌, ℕ, ◌≤◌, Bool, true, false, cond, not, ◌&&◌, ◌||◌, eqb, ltb, List, [], ◌∷◌, ◌++◌, length, filter, sym, refl, ap, ◌∙◌, subst, ap₂}
use Rattle.std.specs.List.{flat_map}
use Rattle.std.proofs.lemmas.Bool.{cond-false, and_left, or_from}
use Rattle.std.proofs.lemmas.List.{append-nil}
use Rattle.sheet.specs.declared.event.Event.{Event}
use Rattle.sheet.specs.declared.event.Kind.TheVariants.{Cut}
use Rattle.table.specs.declared.timer.TimerPlace.{TimerPlace}
use Rattle.rules.specs.declared.answer.Code.{Code}
use Rattle.rules.specs.declared.answer.Code.TheVariants.{Done}
use Rattle.rules.specs.declared.call.Call.{Call}
use Rattle.rules.specs.Codes.{number_of}
use Rattle.rules.specs.State.{Setup, Tasks, State, running as first}
use Rattle.rules.specs.Effects.{Effect}
use Rattle.rules.specs.Refusals.{Step, settled}
use Rattle.laws.specs.Histories.{Seen}
use Rattle.laws.specs.Asks.{Verb, Verb.tick, Verb.abort, Verb.delay, Verb.timer, Verb.ctime, Verb.chap, Verb.susp, Verb.rsum, Verb.other, ordinal, asked, of, does, does_to, aborts}
use Rattle.laws.specs.Laws.{tally, last_runs, Numbered}
use Rattle.laws.proofs.Delays.{delays_of}
use Rattle.laws.proofs.Timers.{after, beaten, placed}
use Rattle.laws.proofs.Kept.{Kept}
use Rattle.laws.proofs.Turns.{NoRunsNoCut, kept_turn, runs_turn, cuts_turn}

-- a call with what comes back, as it is seen
abbrev pub saw : Call → ℕ → Step → Seen
saw c room k = record { call = c; room = room; answer = record { code = k.code; told = length k.told; factor = k.factor }; told = k.told }

-- the same as far as levels, holds and timers hang on it
abbrev pub heard : Call → Code → List Event → Seen
heard c k es = record { call = c; room = 0; answer = record { code = k; told = 0; factor = 0 }; told = es }

-- a task that is not registered has its written level and is not held
abbrev pub Untouched : Setup → Tasks → Type 0
Untouched b s = (t : ℕ) → b.registered t ≡ false → (s.level t ≡ b.written t) × (s.roll.held t ≡ false)

-- what holds of the state before a call, when es were told
pub record Fit (b : Setup) (s : State) (es : List Event) : Type 0 where
  pub kept : Kept (λ t. delays_of t s.timers) es s.tasks
  pub few : length s.timers ≤ 64
  pub book : Numbered b
  pub untouched : Untouched b s.tasks

-- the state u, after a call that was seen as e and told `told`
pub record After (b : Setup) (s : State) (e : Seen) (es told : List Event) (u : State) : Type 0 where
  pub kept : Kept (λ t. delays_of t u.timers) (es ++ told) u.tasks
  pub levels : (t : ℕ) → u.tasks.level t ≡ cond (aborts (first s.tasks) t e) (b.written t) (cond (does_to chap t e) (of e).x (s.tasks.level t))
  pub holds : (t : ℕ) → u.tasks.roll.held t ≡ cond (aborts (first s.tasks) t e || does_to rsum t e) false (does_to susp t e || s.tasks.roll.held t)
  pub timers : u.timers ≡ flat_map (after e) s.timers ++ placed (first s.tasks) e []
  pub few : length u.timers ≤ 64
  pub untouched : Untouched b u.tasks

pub record Does (b : Setup) (s : State) (c : Call) (k : Code) (es : List Event) (e : Effect) : Type 0 where
  pub leaves : After b s (heard c k e.told) es e.told e.state
  pub runner : last_runs (first s.tasks) e.told ≡ first s.tasks

pub record Steps (b : Setup) (s : State) (c : Call) (room : ℕ) (es : List Event) (k : Step) : Type 0 where
  pub leaves : After b s (saw c room k) es k.told k.state
  pub runner : last_runs (first s.tasks) k.told ≡ first k.state.tasks

-- ---- places, one by one
pub joined_ext : (f g : TimerPlace → List TimerPlace) (ps : List TimerPlace) → ((p : TimerPlace) → f p ≡ g p) → flat_map f ps ≡ flat_map g ps
joined_ext f g [] h = refl
joined_ext f g (p ∷ ps) h = ap₂ (λ (x y : List TimerPlace). x ++ y) (h p) (joined_ext f g ps h)

joined_id : (ps : List TimerPlace) → flat_map (λ p. p ∷ []) ps ≡ ps
joined_id [] = refl
joined_id (p ∷ ps) = ap (λ (l : List TimerPlace). p ∷ l) (joined_id ps)

pub joined_kept : (q : TimerPlace → Bool) (ps : List TimerPlace) → flat_map (λ p. cond (q p) [] (p ∷ [])) ps ≡ filter (λ p. not (q p)) ps
joined_kept q [] = refl
joined_kept q (p ∷ ps) = go (q p) (joined_kept q ps)
  where
    go : (b : Bool) → flat_map (λ p. cond (q p) [] (p ∷ [])) ps ≡ filter (λ p. not (q p)) ps
        → cond b [] (p ∷ []) ++ flat_map (λ p. cond (q p) [] (p ∷ [])) ps ≡ cond (not b) (p ∷ filter (λ p. not (q p)) ps) (filter (λ p. not (q p)) ps)
    go true i = i
    go false i = ap (λ (l : List TimerPlace). p ∷ l) i

after_go : (L X C Y : Bool) (l : List TimerPlace) → X ≡ false → C ≡ false → cond (L && X) [] (cond (not L && (C && Y)) [] l) ≡ l
after_go true X C Y l x c = rw x refl
after_go false X C Y l x c = rw c refl

-- with no cut and no ctime only a tick changes a place
pub after_beat : (e : Seen) (p : TimerPlace) → ((t : ℕ) → does_to ctime t e ≡ false) → ((t : ℕ) → tally Cut t e.told ≡ 0) → after e p ≡ cond (does tick e) (beaten p) (p ∷ [])
after_beat e p c x = after_go p.delay (ltb 0 (tally Cut p.task e.told)) (does_to ctime p.task e) (eqb (of e).x p.factor) (cond (does tick e) (beaten p) (p ∷ []))
    (ap (λ n. ltb 0 n) (x p.task)) (c p.task)

pub unchanged : (e : Seen) (ps : List TimerPlace) → does tick e ≡ false → ((t : ℕ) → does_to ctime t e ≡ false) → ((t : ℕ) → tally Cut t e.told ≡ 0) → flat_map (after e) ps ≡ ps
unchanged e ps a c x = joined_ext (after e) (λ p. p ∷ []) ps (λ p. after_beat e p c x ∙ cond-false (does tick e) (beaten p) (p ∷ []) a) ∙ joined_id ps

pub unchanged_nil : (e : Seen) (ps : List TimerPlace) → does tick e ≡ false → ((t : ℕ) → does_to ctime t e ≡ false) → ((t : ℕ) → tally Cut t e.told ≡ 0) → ps ≡ flat_map (after e) ps ++ []
unchanged_nil e ps a c x = sym (append-nil (flat_map (after e) ps) ∙ unchanged e ps a c x)

-- ---- `runs` told last adds nothing
pub settles : (b : Setup) (s : State) (c : Call) (room : ℕ) (es : List Event) (k : Code) (e : Effect) → Does b s c k es e → Steps b s c room es (settled s k e)
settles b s c room es k e d =
    let was = first s.tasks in let is = first e.state.tasks in
    let l = d.leaves in
    record {
      leaves = record {
        kept = kept_turn was e.over is (λ t. delays_of t e.state.timers) es e.told e.state.tasks l.kept;
        levels = l.levels;
        holds = l.holds;
        timers = l.timers ∙ ap (λ (x : List TimerPlace). x ++ placed was (heard c k e.told) [])
            (joined_ext (after (heard c k e.told)) (after (saw c room (settled s k e))) s.timers
            (λ p. ap (λ n. cond (p.delay && ltb 0 n) [] (cond (not p.delay && (does_to ctime p.task (heard c k []) && eqb (asked c).x p.factor)) [] (cond (does tick (heard c k [])) (beaten p) (p ∷ [])))) (sym (cuts_turn was e.over is e.told p.task))));
        few = l.few;
        untouched = l.untouched;
      };
      runner = runs_turn was e.over is e.told d.runner;
    }

-- ---- a call turned down, other than for a field out of range
pub turned_down : (b : Setup) (s : State) (c : Call) (room : ℕ) (es : List Event) (k : Code) (told : List Event) → Fit b s es → eqb (number_of k) 0 ≡ false → eqb (number_of k) 12 ≡ false
    → NoRunsNoCut told → Kept (λ t. delays_of t s.timers) (es ++ told) s.tasks → Steps b s c room es (record { state = s; code = k; told = told; factor = 0 })
turned_down b s c room es k told f z w n kept = record {
  leaves = record {
    kept = kept;
    levels = λ t. rw (z, w) refl;
    holds = λ t. rw (z, w) refl;
    timers = rw z (unchanged_nil (saw c room (record { state = s; code = k; told = told; factor = 0 })) s.timers (rw z refl) (λ t. rw z refl) n.1);
    few = f.few;
    untouched = f.untouched;
  };
  runner = n.0 (first s.tasks);
}

-- ---- an obeyed call that the laws do not name leaves levels, holds and timers
cond_two : {A : Type 0} (x y : Bool) (u v w : A) → x ≡ false → y ≡ false → w ≡ cond x u (cond y v w)
cond_two x y u v w a c = rw (a, c) refl

cond_three : (x y z w : Bool) → x ≡ false → y ≡ false → z ≡ false → w ≡ cond (x || y) false (z || w)
cond_three x y z w a c d = rw (a, c, d) refl

pub unnamed : (b : Setup) (s : State) (c : Call) (es : List Event) (e : Effect) → Fit b s es → (asked c).verb ≡ other
    → e.state.tasks.level ≡ s.tasks.level → e.state.tasks.roll.held ≡ s.tasks.roll.held → e.state.timers ≡ s.timers
    → NoRunsNoCut e.told → Kept (λ t. delays_of t s.timers) (es ++ e.told) e.state.tasks
    → Does b s c Done es e
unnamed b s c es e f v lv hd tm n kept = record {
  leaves = record {
    kept = subst (λ (q : List TimerPlace). Kept (λ t. delays_of t q) (es ++ e.told) e.state.tasks) (sym tm) kept;
    levels = λ t. ap (λ (g : ℕ → ℕ). g t) lv ∙ cond_two (aborts r t h) (does_to chap t h) (b.written t) (asked c).x (s.tasks.level t) (no_abort t) (to chap t refl);
    holds = λ t. ap (λ (g : ℕ → Bool). g t) hd ∙ cond_three (aborts r t h) (does_to rsum t h) (does_to susp t h) (s.tasks.roll.held t) (no_abort t) (to rsum t refl) (to susp t refl);
    timers = tm ∙ unchanged_nil h s.timers (is tick refl) (λ t. to ctime t refl) n.1 ∙ ap (λ (l : List TimerPlace). flat_map (after h) s.timers ++ l) (sym no_place);
    few = subst (λ (q : List TimerPlace). length q ≤ 64) (sym tm) f.few;
    untouched = λ t u. (ap (λ (g : ℕ → ℕ). g t) lv ∙ (f.untouched t u).0, ap (λ (g : ℕ → Bool). g t) hd ∙ (f.untouched t u).1);
  };
  runner = n.0 (first s.tasks);
}
  where
    r : ℕ
    r = first s.tasks

    h : Seen
    h = heard c Done e.told

    is : (w : Verb) → eqb 8 (ordinal w) ≡ false → does w (heard c Done e.told) ≡ false
    is w q = ap (λ x. eqb (ordinal x) (ordinal w)) v ∙ q

    to : (w : Verb) (t : ℕ) → eqb 8 (ordinal w) ≡ false → does_to w t (heard c Done e.told) ≡ false
    to w t q = and_left (does w (heard c Done e.told)) (eqb (asked c).task t) (is w q)

    no_abort : (t : ℕ) → aborts (first s.tasks) t (heard c Done e.told) ≡ false
    no_abort t = or_from (does_to abort t (heard c Done e.told)) false (to abort t refl) refl

    no_place : placed (first s.tasks) (heard c Done e.told) [] ≡ []
    no_place = rw (is timer refl, is delay refl) refl
