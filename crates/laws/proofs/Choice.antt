-- The processor's task is the best of those that are ready.
use Rattle.std.proofs.Common.{◌≡◌, ℕ, zero, suc, ◌<◌, Bool, true, false, not, ltb, List, [], ◌∷◌, length, Some, None, filter, Option, sym, refl, ap, ◌∙◌, subst, inl, inr, arith}
use Rattle.std.specs.List.{AllByRecursion as All}
use Rattle.std.proofs.lemmas.Bool.{ltb-false, not-true, not_from_false, and_parts, and_from}
use Rattle.roll.specs.declared.entry.Entry.{Entry}
use Rattle.roll.specs.Entries.{count_of}
use Rattle.roll.specs.Firsts.{fronts, startable, best, task_of}
use Rattle.roll.specs.Model.{first_in}
use Rattle.table.specs.declared.timer.TimerPlace.{TimerPlace}
use Rattle.rules.specs.State.{Setup, State, numbered}
use Rattle.laws.specs.Histories.{History, events}
use Rattle.laws.specs.Laws.{running, age, asleep, Ready, Before, Chosen, holder}
use Rattle.laws.proofs.Marks.{marks_of, count_marks}
use Rattle.laws.proofs.Delays.{delays_of, Fits}
use Rattle.laws.proofs.Starts.{fin, unfinished}
use Rattle.laws.proofs.Stamps.{first_stamp, opens_rise, opens_below, stamp_place}
use Rattle.laws.proofs.First.{Holds, BestOf, Bef, Ordered, both, best_is, best_first, all_kept, all_unkept, all_fronts, fronts_lead, fronts_ordered, front_of, ordered_kept, Oldest}
use Rattle.laws.proofs.Live.{asleep_delays}
use Rattle.laws.proofs.Tied.{Tied}

fits_awake : (l : List Bool) (x : Bool) (bs : List Bool) (n : ℕ) → l ≡ x ∷ bs → Fits l n → n ≡ 0 → x ≡ false
fits_awake l x bs n q g h = go x (subst (λ (m : List Bool). Fits m n) q g)
  where
    go : (y : Bool) → Fits (y ∷ bs) n → y ≡ false
    go true f = absurd (let y = f.0 in let z : ⊥ = omega arith in z)
    go false f = refl

-- what is known of the entry that comes first
record Known (s : State) (e : Entry) : Type 0 where
  awake : e.asleep ≡ false
  free : s.tasks.roll.held e.task ≡ false
  leads : Oldest s.tasks.roll.entries e
  level : e.level ≡ s.tasks.level e.task
  above : 0 < e.task

module _ (b : Setup) (h : History) (s : State) (t : Tied b h s) where
  list : List Entry
  list = filter (startable s.tasks.roll.held) (fronts s.tasks.roll.entries)

  ages : ℕ → ℕ
  ages u = first_stamp (length (events h)) u (unfinished (events h))

  age_is : (u : ℕ) → ages u ≡ age u h
  unfolding ages
  age_is u = stamp_place u (fin (events h)) 0 (length (events h)) (events h) (omega arith)

  ordered : Ordered ages list
  unfolding ages list
  ordered = ordered_kept ages ages (startable s.tasks.roll.held) (fronts s.tasks.roll.entries) (λ f _. refl)
      (fronts_ordered (length (events h)) s.tasks.roll.entries (unfinished (events h)) t.fit.kept.order (opens_rise (fin (events h)) 0 (events h)) (opens_below (fin (events h)) (length (events h)) 0 (events h) (omega arith)))

  fronts_known : All (λ (e : Entry). Oldest s.tasks.roll.entries e × ((e.level ≡ s.tasks.level e.task) × (0 < e.task))) (fronts s.tasks.roll.entries)
  fronts_known = both (Oldest s.tasks.roll.entries) (λ (e : Entry). (e.level ≡ s.tasks.level e.task) × (0 < e.task)) (fronts s.tasks.roll.entries) (fronts_lead s.tasks.roll.entries)
      (all_fronts (λ (e : Entry). (e.level ≡ s.tasks.level e.task) × (0 < e.task)) s.tasks.roll.entries (both (λ (e : Entry). e.level ≡ s.tasks.level e.task) (λ (e : Entry). 0 < e.task) s.tasks.roll.entries t.fit.kept.levels t.fit.kept.above))

  known : All (Known s) list
  unfolding list
  known = all_kept (startable s.tasks.roll.held) (λ (e : Entry). Oldest s.tasks.roll.entries e × ((e.level ≡ s.tasks.level e.task) × (0 < e.task))) (Known s) (fronts s.tasks.roll.entries)
      (λ e p k. record { awake = not-true e.asleep (and_parts (not e.asleep) (not (s.tasks.roll.held e.task)) p).0; free = not-true (s.tasks.roll.held e.task) (and_parts (not e.asleep) (not (s.tasks.roll.held e.task)) p).1; leads = k.0; level = k.1.0; above = k.1.1 }) fronts_known

  slept : (u : ℕ) → asleep u h [] ≡ ltb 0 (delays_of u s.timers)
  slept u = asleep_delays u h [] ∙ ap (λ (l : List TimerPlace). ltb 0 (delays_of u l)) (sym t.timers)

  -- the first is ready
  ready_is : (e : Entry) → Known s e → Ready h e.task
  ready_is e k =
      let c : count_of e.task s.tasks.roll.entries ≡ suc (length k.leads.0) = count_marks e.task s.tasks.roll.entries ∙ ap length k.leads.1 in
      let g : Fits (false ∷ k.leads.0) (delays_of e.task s.timers) = subst (λ l. Fits l (delays_of e.task s.timers)) (k.leads.1 ∙ ap (λ (x : Bool). x ∷ k.leads.0) k.awake) (t.fit.kept.marks e.task) in
      record {
        starts = (let n = t.fit.kept.balance e.task in omega arith);
        wakes = slept e.task ∙ ap (λ n. ltb 0 n) g.0;
        free = sym (t.holds e.task) ∙ k.free;
      }

  -- each that is ready is on the list
  listed : (u : ℕ) → Ready h u → (P : Entry → Type 0) → All P list → (f : Entry) × (f.task ≡ u) × (P f × (f.level ≡ s.tasks.level u))
  unfolding list
  listed u r P a =
      let n = t.fit.kept.balance u in
      let st = r.starts in
      let all = both (λ (f : Entry). startable s.tasks.roll.held f ≡ true → P f) (λ (e : Entry). Oldest s.tasks.roll.entries e × ((e.level ≡ s.tasks.level e.task) × (0 < e.task))) (fronts s.tasks.roll.entries) (all_unkept (startable s.tasks.roll.held) P (fronts s.tasks.roll.entries) a) fronts_known in
      let w = front_of u s.tasks.roll.entries (omega arith) (λ (f : Entry). (startable s.tasks.roll.held f ≡ true → P f) × (Oldest s.tasks.roll.entries f × ((f.level ≡ s.tasks.level f.task) × (0 < f.task)))) all in
      let f = w.0 in
      let no : delays_of u s.timers ≡ 0 = (let z = ltb-false 0 (delays_of u s.timers) (sym (slept u) ∙ r.wakes) in omega arith) in
      let mk : marks_of u s.tasks.roll.entries ≡ f.asleep ∷ w.2.1.0.0 = subst (λ k. marks_of k s.tasks.roll.entries ≡ f.asleep ∷ w.2.1.0.0) w.1 w.2.1.0.1 in
      let aw : f.asleep ≡ false = fits_awake (marks_of u s.tasks.roll.entries) f.asleep w.2.1.0.0 (delays_of u s.timers) mk (t.fit.kept.marks u) no in
      let fr : s.tasks.roll.held f.task ≡ false = ap s.tasks.roll.held w.1 ∙ t.holds u ∙ r.free in
      (f, w.1, (w.2.0 (and_from (not f.asleep) (not (s.tasks.roll.held f.task)) (not_from_false f.asleep aw) (not_from_false (s.tasks.roll.held f.task) fr)), w.2.1.1.0 ∙ ap s.tasks.level w.1))

  before : (e f : Entry) (u : ℕ) → Known s e → f.task ≡ u → f.level ≡ s.tasks.level u → Bef ages e f → Before b h e.task u
  before e f u k p q (inl a) = inl (let x = k.level in let y = t.levels e.task in let z = t.levels u in omega arith)
  before e f u k p q (inr a) = inr ((sym (t.levels e.task) ∙ sym k.level ∙ a.0 ∙ q ∙ t.levels u), (let x = age_is e.task in let y = age_is u in let z = ap ages p in let w = a.1 in omega arith))

  positive : (r : ℕ) → 0 < r → Ready h r → ((u : ℕ) → Ready h u → Before b h r u) → Chosen b h r
  positive zero p a c = absurd (let y : ⊥ = omega arith in y)
  positive (suc r) p a c = (a, c)

  chosen_of : (o : Option Entry) → BestOf ages list o → Holds (Known s) o → Chosen b h (numbered (task_of o))
  chosen_of None o k = λ u r. (listed u r (λ (_ : Entry). ⊥) o).2.0
  chosen_of (Some e) o k = positive e.task k.above (ready_is e k) (λ u r. (let w = listed u r (Bef ages e) o in before e w.0 u k w.1 w.2.1 w.2.0))

  pub choice : Chosen b h (running h)
  unfolding list
  choice = subst (Chosen b h) (sym t.runner) (chosen_of (best list) (best_first ages list ordered) (best_is (Known s) list known))

  named : (o : Option Entry) → Holds (Known s) o → task_of o ≡ holder (numbered (task_of o))
  named None k = refl
  named (Some e) k = above_zero e.task k.above
    where
      above_zero : (n : ℕ) → 0 < n → Some n ≡ holder n
      above_zero zero h = absurd (let z : ⊥ = omega arith in z)
      above_zero (suc n) h = refl

  -- the roll's first is whom the last `runs` names
  pub first_named : first_in s.tasks.roll ≡ holder (running h)
  unfolding list
  first_named = named (best list) (best_is (Known s) list known) ∙ ap holder (sym t.runner)
