-- Every call, turned down or obeyed.
use Rattle.std.proofs.Common.{◌≡◌, ℕ, Bool, true, false, not, ◌&&◌, ◌||◌, eqb, ltb, leb, List, [], ◌∷◌, Some, None, Option, refl, arith}
use Rattle.std.proofs.lemmas.Bool.{cond_both, and_parts, eqb-false, leb-true, lt-ltb, not-false}
use Rattle.sheet.specs.declared.event.Event.{Event}
use Rattle.sheet.specs.declared.event.Kind.TheVariants.{Missed}
use Rattle.sheet.specs.Events.{event}
use Rattle.rules.specs.declared.answer.Code.{Code}
use Rattle.rules.specs.declared.answer.Code.TheVariants.{Done, ShortSheet, Idle, FieldRange, CoilRange, NotRegistered, NoLever, Dormant, HoldStands, TwoStarts, TableFull, IsReleased, FactorSet, NothingSet}
use Rattle.rules.specs.declared.call.Call.{Call}
use Rattle.rules.specs.declared.call.Call.TheVariants.{Macro as Issues, Tick, Coil}
use Rattle.rules.specs.declared.call.Macro.{Macro}
use Rattle.rules.specs.declared.call.Macro.TheVariants.{Rleas, Queue, Abort, Delay, Timer, Ctime, Chap, Sfact, Gfact, Susp, Rsum, Wake, Cwake, Stime, Exit}
use Rattle.rules.specs.Codes.{number_of}
use Rattle.rules.specs.State.{Setup, State, running as first}
use Rattle.rules.specs.Starts.{room_for}
use Rattle.rules.specs.Fields.{task_field, factor_field, wait_field, cycle_field, in_range}
use Rattle.rules.specs.Effects.{Effect, cutting, quiet, starting, obeyed}
use Rattle.rules.specs.Refusals.{Step, settled, refused, Check, checks, macro_checks}
use Rattle.rules.specs.Calls.{effect, answered, called}
use Rattle.laws.specs.Asks.{Verb.other, asked}
use Rattle.laws.proofs.Delays.{delays_of}
use Rattle.laws.proofs.Kept.{kept_same, kept_told}
use Rattle.laws.proofs.Turns.{without_one}
use Rattle.laws.proofs.Steps.{Fit, Does, Steps, settles, turned_down}
use Rattle.laws.proofs.Waits.{does_delay, does_timer, does_ctime, does_tick}
use Rattle.laws.proofs.Cuts.{does_cut}
use Rattle.laws.proofs.Obeyed.{does_chap, does_susp, does_rsum, does_nothing, does_start, does_exit, does_rleas, does_factor, does_gfact, does_clock}

or_false : (a : Bool) → (a || false) ≡ a
or_false true = refl
or_false false = refl

wait_pos : (n : ℕ) → wait_field n ≡ true → ltb 0 n ≡ true
wait_pos n h = let p = leb-true 1 n (and_parts (leb 1 n) (leb n 86400000) h).0 in lt-ltb 0 n (omega arith)

-- P of what comes back from each cause where it is the first that applies, and of what is done where none does
abbrev Each : (Step → Type 0) → List Check → Step → Type 0
Each P [] done = P done
Each P (x ∷ xs) done = (x.applies ≡ true → P x.back) × (x.applies ≡ false → Each P xs done)

of_answered : (P : Step → Type 0) (xs : List Check) (done : Step) → Each P xs done → P (answered xs done)
of_answered P [] done e = e
of_answered P (x ∷ xs) done e = cond_both x.applies x.back (answered xs done) P e.0 (λ q. of_answered P xs done (e.1 q))

module _ (b : Setup) (s : State) (room : ℕ) (es : List Event) (f : Fit b s es) where
  -- turned down: nothing is told, or that a start was missed
  down : (c : Call) (k : Code) → eqb (number_of k) 0 ≡ false → eqb (number_of k) 12 ≡ false → Steps b s c room es (refused s k)
  down c k z w = turned_down b s c room es k [] f z w ((λ _. refl), (λ _. refl)) (kept_same (λ t. delays_of t s.timers) es s.tasks f.kept)

  missed : (c : Call) (t : ℕ) → Steps b s c room es (record { state = s; code = TwoStarts; told = event Missed t ∷ []; factor = 0 })
  missed c t = turned_down b s c room es TwoStarts (event Missed t ∷ []) f refl refl (without_one (event Missed t) refl refl) (kept_told (λ t. delays_of t s.timers) es s.tasks (event Missed t) refl refl refl f.kept)

  done_by : (c : Call) (e : Effect) → Does b s c Done es e → Steps b s c room es (settled s Done e)
  done_by c e d = settles b s c room es Done e d

  at_bad_field : (m : Macro) → Steps b s (Issues m) room es (settled s FieldRange (cutting b s (first s.tasks) (first s.tasks)))
  at_bad_field m = settles b s (Issues m) room es FieldRange (cutting b s (first s.tasks) (first s.tasks))
      (does_cut b s (Issues m) FieldRange es (first s.tasks) (first s.tasks) f
      (record { cuts = λ t. refl; levels = λ t. refl; holds = λ t. refl; frees = λ t. refl; cancels = λ t. refl; ticks = refl; sets = refl }))

  -- a macro that the issuer may make, with its fields in range
  Own : Macro → Type 0
  Own m = Each (Steps b s (Issues m) room es) (macro_checks b s m) (settled s Done (obeyed b s (first s.tasks) m))

  known : {t : ℕ} → not (b.registered t) ≡ false → b.registered t ≡ true
  known {t} q = not-false (b.registered t) q

  starts : (c : Call) (t : ℕ) (x : Option ℕ) → (asked c).verb ≡ other → not (b.registered t) ≡ false → not (room_for s.tasks t) ≡ false → Steps b s c room es (settled s Done (starting s t x))
  starts c t x v g q = done_by c (starting s t x) (does_start b s c t x es f v (f.book t (known g)).0 (not-false (room_for s.tasks t) q))

  own_steps : (m : Macro) → (first s.tasks ≡ 0 → ⊥) → in_range m ≡ true → Own m
  unfolding Own
  own_steps (Rleas t) i r =
      let c = Issues (Rleas t) in
      ((λ _. down c NotRegistered refl refl), λ g. ((λ _. down c IsReleased refl refl), λ _. done_by c _ (does_rleas b s t es f (λ z. let a = f.book t (known g) in omega arith))))
  own_steps (Queue t x) i r =
      let c = Issues (Queue t x) in
      ((λ _. down c NotRegistered refl refl), λ g. ((λ _. down c Dormant refl refl), λ _. ((λ _. missed c t), λ q. starts c t (Some x) refl g q)))
  own_steps (Abort t) i r =
      let c = Issues (Abort t) in
      cond_both (b.registered t) (cutting b s t (first s.tasks)) (quiet s) (λ (e : Effect). Steps b s c room es (settled s Done e))
      (λ _. done_by c _ (does_cut b s c Done es t (first s.tasks) f
      (record { cuts = λ u. or_false (eqb t u); levels = λ u. refl; holds = λ u. refl; frees = λ u. refl; cancels = λ u. refl; ticks = refl; sets = refl })))
      (λ q. done_by c _ (does_nothing b s t es f q))
  own_steps (Delay n) i r =
      let c = Issues (Delay n) in
      ((λ _. down c TableFull refl refl), λ nf. done_by c _ (does_delay b s n es f i (wait_pos n r) nf))
  own_steps (Timer t n y x) i r =
      let c = Issues (Timer t n y x) in
      let w = (and_parts (wait_field n) (cycle_field y && factor_field x) (and_parts (task_field t) (wait_field n && (cycle_field y && factor_field x)) r).1).0 in
      ((λ _. down c NotRegistered refl refl), λ _. ((λ _. down c TableFull refl refl), λ nf. done_by c _ (does_timer b s t n y x es f (wait_pos n w) nf)))
  own_steps (Ctime t x) i r =
      let c = Issues (Ctime t x) in
      ((λ _. down c NothingSet refl refl), λ _. done_by c _ (does_ctime b s t x es f))
  own_steps (Chap t l) i r =
      let c = Issues (Chap t l) in
      ((λ _. down c NotRegistered refl refl), λ g. ((λ _. down c Dormant refl refl), λ _. done_by c _ (does_chap b s t l es f (known g))))
  own_steps (Sfact t x) i r =
      let c = Issues (Sfact t x) in
      ((λ _. down c NotRegistered refl refl), λ _. ((λ _. down c Dormant refl refl), λ _. ((λ _. down c FactorSet refl refl), λ _. done_by c _ (does_factor b s c t x es f refl))))
  own_steps Gfact i r = done_by (Issues Gfact) _ (does_gfact b s (first s.tasks) es f)
  own_steps (Susp t) i r =
      let c = Issues (Susp t) in
      ((λ _. down c NotRegistered refl refl), λ g. ((λ _. down c NoLever refl refl), λ _. ((λ _. down c Dormant refl refl), λ _. ((λ _. down c HoldStands refl refl), λ _. done_by c _ (does_susp b s t es f (known g))))))
  own_steps (Rsum t) i r =
      let c = Issues (Rsum t) in
      ((λ _. down c NotRegistered refl refl), λ g. ((λ _. down c NoLever refl refl), λ _. ((λ _. down c Dormant refl refl), λ _. ((λ _. down c HoldStands refl refl), λ _. done_by c _ (does_rsum b s t es f (known g))))))
  own_steps (Wake t x n y) i r =
      let c = Issues (Wake t x n y) in
      ((λ _. down c NotRegistered refl refl), λ _. ((λ _. down c TableFull refl refl), λ _. done_by c _ (does_clock b s c es _ _ f refl)))
  own_steps (Cwake t x) i r =
      let c = Issues (Cwake t x) in
      ((λ _. down c NothingSet refl refl), λ _. done_by c _ (does_clock b s c es _ _ f refl))
  own_steps (Stime n) i r = done_by (Issues (Stime n)) _ (does_clock b s (Issues (Stime n)) es _ _ f refl)
  own_steps Exit i r = done_by (Issues Exit) _ (does_exit b s es f i)

  each : (c : Call) → Each (Steps b s c room es) (checks b s c room) (settled s Done (effect b s c))
  unfolding Own
  each (Issues m) =
      let c = Issues m in
      ((λ _. down c ShortSheet refl refl), λ _. ((λ _. down c Idle refl refl), λ i. ((λ _. at_bad_field m), λ q. own_steps m (eqb-false (first s.tasks) 0 i) (not-false (in_range m) q))))
  each Tick = ((λ _. down Tick ShortSheet refl refl), λ _. done_by Tick _ (does_tick b s es f))
  each (Coil t) =
      let c = Coil t in
      ((λ _. down c ShortSheet refl refl), λ _. ((λ _. down c CoilRange refl refl), λ _. ((λ _. down c NotRegistered refl refl), λ g. ((λ _. down c Dormant refl refl), λ _. ((λ _. missed c t), λ q. starts c t None refl g q)))))

  pub steps : (c : Call) → Steps b s c room es (called b s c room)
  steps c = of_answered (Steps b s c room es) (checks b s c room) (settled s Done (effect b s c)) (each c)
