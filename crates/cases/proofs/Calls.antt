-- Delays out of range, queues, aborts and coils.
use Rattle.std.proofs.Common.{◌≡◌, ℕ, suc, ◌+◌, ◌<◌, ◌≤◌, true, false, cond, not, ◌&&◌, eqb, leb, List, [], ◌∷◌, ◌++◌, length, replicate, Some, sym, refl, ap, ◌∙◌, subst, inl, inr, arith}
use Rattle.std.proofs.lemmas.Bool.{cond-true, cond-false, eq-eqb, le-leb, lt-leb, lt-ltb, le-ltb, and_from, and_right, cases_Bool, not_from_true, not_from_false}
use Rattle.sheet.specs.declared.event.Event.{Event}
use Rattle.sheet.specs.declared.event.Kind.TheVariants.{Accepted, Missed, Cut, Runs}
use Rattle.sheet.specs.Events.{event}
use Rattle.roll.specs.declared.entry.Entry.{Entry}
use Rattle.roll.specs.Entries.{of?, count_of, awake}
use Rattle.roll.specs.Model.{count_in, first_in}
use Rattle.roll.proofs.Counts.{count_push}
use Rattle.roll.proofs.Firsts.{first_has}
use Rattle.roll.proofs.Tables.{put_same}
use Rattle.rules.specs.declared.answer.Code.TheVariants.{Done, FieldRange, TwoStarts}
use Rattle.rules.specs.declared.call.Call.TheVariants.{Coil}
use Rattle.rules.specs.declared.call.Macro.TheVariants.{Queue, Abort, Delay}
use Rattle.rules.specs.State.{Setup, State, running, numbered}
use Rattle.rules.specs.Starts.{room_for, cut_events, stripped}
use Rattle.rules.specs.Tables.{timers_full}
use Rattle.rules.specs.Fields.{task_field, in_range}
use Rattle.rules.specs.Effects.{obeyed, sleeping, cutting, starting, quiet}
use Rattle.rules.specs.Refusals.{Step, Check, settled, short, bad_coil, unregistered, dormant, two_starts, no_place, turn}
use Rattle.rules.specs.Calls.{called, answered, effect}
use Rattle.laws.specs.Laws.{Numbered}
use Rattle.cases.specs.Edges.{number, issued, Issuer, current_level, Sleeps, CutOff, Behind, Queued, QueueTwice, TwoCuts, CoilNumbers}
use Rattle.cases.proofs.Walks.{passes, stops, own_checks, at_bad_field}
use Rattle.cases.proofs.Queues.{first_stays, numbered_some}

-- ---- delays
pub sleeps : (b : Setup) (s : State) (r room : ℕ) → Issuer s r room → length s.timers < 64 → Sleeps s r 86400000 (issued b room s (Delay 86400000))
sleeps b s r room i l = subst (Sleeps s r 86400000) (sym e) (record { answer = refl; asleep = refl; waits = refl })
  where
    e : issued b room s (Delay 86400000) ≡ settled s Done (sleeping s r 86400000)
    e = own_checks b s r room i (Delay 86400000) refl
        ∙ passes (no_place b s (timers_full s)) [] (settled s Done (obeyed b s (running s.tasks) (Delay 86400000))) (lt-leb 64 (length s.timers) l)
        ∙ ap (λ q. settled s Done (sleeping s q 86400000)) i.first

pub cut_off : (b : Setup) (s : State) (r room n : ℕ) → Issuer s r room → in_range (Delay n) ≡ false → CutOff s r (issued b room s (Delay n))
cut_off b s r room n i h = subst (CutOff s r) (sym e) (record {
  answer = refl;
  told = ap (λ (l : List Event). cut_events s.tasks r ++ l) (cond-false (eqb (running s.tasks) is && not (eqb r r)) [] (event Runs is ∷ []) (and_right (eqb (running s.tasks) is) (not (eqb r r)) (not_from_true (eqb r r) (eq-eqb r r refl))));
  cleared = refl;
  dormant = put_same s.tasks.released r false;
})
  where
    is : ℕ
    is = running (stripped s.tasks r (b.written r))

    e : issued b room s (Delay n) ≡ settled s FieldRange (cutting b s r r)
    e = at_bad_field b s r room i (Delay n) h ∙ ap (λ q. settled s FieldRange (cutting b s q q)) i.first

-- ---- queues
queue_field : (t x : ℕ) → task_field t ≡ true → x ≤ 16 → in_range (Queue t x) ≡ true
queue_field t x h l = and_from (task_field t) (leb x 16) h (le-leb x 16 l)

module _ (b : Setup) (s : State) (r t x room : ℕ) (i : Issuer s r room) (f : task_field t ≡ true) (g : b.registered t ≡ true) (d : s.tasks.released t ≡ true) (l : x ≤ 16) where
  queue_checks : issued b room s (Queue t x) ≡ answered (two_starts b s t ∷ []) (settled s Done (starting s t (Some x)))
  queue_checks =
      own_checks b s r room i (Queue t x) (queue_field t x f l)
      ∙ passes (unregistered b s t) (dormant b s t ∷ (two_starts b s t ∷ [])) (settled s Done (starting s t (Some x))) (not_from_true (b.registered t) g)
      ∙ passes (dormant b s t) (two_starts b s t ∷ []) (settled s Done (starting s t (Some x))) (not_from_true (s.tasks.released t) d)

  queue_taken : count_in t s.tasks.roll < 2 → issued b room s (Queue t x) ≡ settled s Done (starting s t (Some x))
  queue_taken n = queue_checks ∙ passes (two_starts b s t) [] (settled s Done (starting s t (Some x))) (not_from_true (room_for s.tasks t) (lt-ltb (count_in t s.tasks.roll) 2 n))

  queue_missed : count_in t s.tasks.roll ≡ 2 → issued b room s (Queue t x) ≡ record { state = s; code = TwoStarts; told = event Missed t ∷ []; factor = 0 }
  queue_missed n = queue_checks ∙ stops (two_starts b s t) [] (settled s Done (starting s t (Some x))) (not_from_false (room_for s.tasks t) (le-ltb (count_in t s.tasks.roll) 2 (omega arith)))

-- the state with one start more of t
abbrev started_once : State → ℕ → ℕ → State
started_once s t x = (starting s t (Some x)).state

level_push : (r : ℕ) (es : List Entry) (x : Entry) → 0 < count_of r es → current_level r (es ++ (x ∷ [])) ≡ current_level r es
level_push r [] x n = absurd (let z : ⊥ = omega arith in z)
level_push r (e ∷ es) x n =
    elim (of? r e) as (λ v. 0 < cond v (suc (count_of r es)) (count_of r es) → cond v e.level (current_level r (es ++ (x ∷ []))) ≡ cond v e.level (current_level r es)) [
      | true ↦ λ _. refl
      | false ↦ λ q. level_push r es x q
    ] n

count_more : (t : ℕ) (es : List Entry) (l : ℕ) → count_of t (es ++ (awake t l ∷ [])) ≡ count_of t es + 1
count_more t es l = count_push t es (awake t l) ∙ ap (λ n. count_of t es + n) (cond-true (eqb t t) 1 0 (eq-eqb t t refl))

stays : (s : State) (r t x room : ℕ) → Issuer s r room → current_level r s.tasks.roll.entries < s.tasks.level t → Issuer (started_once s t x) r room
stays s r t x room i w = record {
  task = i.task;
  first = ap numbered (first_stays s.tasks.roll.held s.tasks.roll.entries (awake t (s.tasks.level t)) r (numbered_some (first_in s.tasks.roll) r i.task i.first) (let z : current_level r s.tasks.roll.entries ≤ s.tasks.level t = omega arith in z));
  sheet = i.sheet;
}

still_worse : (s : State) (r t x room : ℕ) → Issuer s r room → current_level r s.tasks.roll.entries < s.tasks.level t → current_level r (started_once s t x).tasks.roll.entries < s.tasks.level t
still_worse s r t x room i w =
    let e = level_push r s.tasks.roll.entries (awake t (s.tasks.level t)) (first_has s.tasks.roll.held s.tasks.roll.entries r (numbered_some (first_in s.tasks.roll) r i.task i.first)) in
    omega arith

no_turn : (was is : ℕ) → is ≡ was → turn was false is ≡ []
no_turn was is e = cond-true (eqb was is && true) [] (event Runs is ∷ []) (and_from (eqb was is) true (eq-eqb was is (sym e)) refl)

accepted_told : (s : State) (r t x room : ℕ) → Issuer s r room → Issuer (started_once s t x) r room → (settled s Done (starting s t (Some x))).told ≡ event Accepted t ∷ []
accepted_told s r t x room i j = ap (λ (l : List Event). event Accepted t ∷ l) (no_turn (running s.tasks) (running (started_once s t x).tasks) (j.first ∙ sym i.first))

pub queued : (b : Setup) (s : State) (r t x room : ℕ) → Issuer s r room → Behind b s r t → x ≤ 16 → QueueTwice b s room t x
queued b s r t x room i h l =
    subst (λ (k : Step). Queued t k (issued b room k.state (Queue t x)) (issued b room (issued b room k.state (Queue t x)).state (Queue t x))) (sym e1)
    (subst (λ (k : Step). Queued t (settled s Done (starting s t (Some x))) k (issued b room k.state (Queue t x))) (sym e2)
    (subst (λ (k : Step). Queued t (settled s Done (starting s t (Some x))) (settled s1 Done (starting s1 t (Some x))) k) (sym e3)
    (record {
      first = refl;
      first_told = accepted_told s r t x room i i1;
      second = refl;
      second_told = accepted_told s1 r t x room i1 i2;
      third = refl;
      third_told = refl;
    })))
  where
    s1 : State
    s1 = started_once s t x

    s2 : State
    s2 = started_once s1 t x

    i1 : Issuer (started_once s t x) r room
    i1 = stays s r t x room i h.worse

    i2 : Issuer (started_once (started_once s t x) t x) r room
    i2 = stays (started_once s t x) r t x room i1 (still_worse s r t x room i h.worse)

    n1 : count_in t (started_once s t x).tasks.roll ≡ 1
    n1 = count_more t s.tasks.roll.entries (s.tasks.level t) ∙ ap (λ n. n + 1) h.none

    n2 : count_in t (started_once (started_once s t x) t x).tasks.roll ≡ 2
    n2 = count_more t (started_once s t x).tasks.roll.entries (s.tasks.level t) ∙ ap (λ n. n + 1) n1

    e1 : issued b room s (Queue t x) ≡ settled s Done (starting s t (Some x))
    e1 = queue_taken b s r t x room i h.task h.registered h.released l (let z = h.none in omega arith)

    e2 : issued b room (started_once s t x) (Queue t x) ≡ settled (started_once s t x) Done (starting (started_once s t x) t (Some x))
    e2 = queue_taken b (started_once s t x) r t x room i1 h.task h.registered h.released l (let z = n1 in omega arith)

    e3 : issued b room (started_once (started_once s t x) t x) (Queue t x) ≡ record { state = started_once (started_once s t x) t x; code = TwoStarts; told = event Missed t ∷ []; factor = 0 }
    e3 = queue_missed b (started_once (started_once s t x) t x) r t x room i2 h.task h.registered h.released l n2

-- ---- an abort
pub abort_is : (b : Setup) (s : State) (r t room : ℕ) → Issuer s r room → task_field t ≡ true → issued b room s (Abort t) ≡ settled s Done (cond (b.registered t) (cutting b s t r) (quiet s))
abort_is b s r t room i f = own_checks b s r room i (Abort t) f ∙ ap (λ q. settled s Done (cond (b.registered t) (cutting b s t q) (quiet s))) i.first

abort_cuts : (b : Setup) (s : State) (r t room : ℕ) → Issuer s r room → task_field t ≡ true → b.registered t ≡ true → issued b room s (Abort t) ≡ settled s Done (cutting b s t r)
abort_cuts b s r t room i f g = abort_is b s r t room i f ∙ ap (settled s Done) (cond-true (b.registered t) (cutting b s t r) (quiet s) g)

pub two_cuts : (b : Setup) (s : State) (r t room : ℕ) → Issuer s r room → task_field t ≡ true → b.registered t ≡ true → count_in t s.tasks.roll ≡ 2 → TwoCuts b s r t room
two_cuts b s r t room i f g n = record {
  answer = ap number e;
  told = subst (λ (k : Step). k.told ≡ event Cut t ∷ (event Cut t ∷ turn r (eqb t r) (running k.state.tasks))) (sym e)
      (ap (λ (m : ℕ). replicate m (event Cut t) ++ turn (running s.tasks) (eqb t r) is) n
      ∙ ap (λ (w : ℕ). event Cut t ∷ (event Cut t ∷ turn w (eqb t r) is)) i.first);
}
  where
    is : ℕ
    is = running (stripped s.tasks t (b.written t))

    e : issued b room s (Abort t) ≡ settled s Done (cutting b s t r)
    e = abort_cuts b s r t room i f g

-- ---- coils
pub coils : (b : Setup) (s : State) (room : ℕ) → 100 ≤ room → CoilNumbers b s room
coils b s room l = record {
  nought = ap number (past 0 ∙ stops (bad_coil b s 0) (checks_of 0) (settled s Done (effect b s (Coil 0))) refl);
  beyond = λ m. ap number (past 128 ∙ passes (bad_coil b s 128) (checks_of 128) (settled s Done (effect b s (Coil 128))) refl
      ∙ stops (unregistered b s 128) (dormant b s 128 ∷ (two_starts b s 128 ∷ [])) (settled s Done (effect b s (Coil 128))) (not_from_false (b.registered 128) (unknown m)));
}
  where
    checks_of : ℕ → List Check
    checks_of t = unregistered b s t ∷ (dormant b s t ∷ (two_starts b s t ∷ []))

    past : (t : ℕ) → called b s (Coil t) room ≡ answered (bad_coil b s t ∷ checks_of t) (settled s Done (effect b s (Coil t)))
    past t = passes (short b s room) (bad_coil b s t ∷ checks_of t) (settled s Done (effect b s (Coil t))) (le-ltb room 100 l)

    unknown : Numbered b → b.registered 128 ≡ false
    unknown m = elim (cases_Bool (b.registered 128)) [
      | inl h ↦ absurd (let z = (m 128 h).1 in let q : ⊥ = omega arith in q)
      | inr h ↦ h
    ]
