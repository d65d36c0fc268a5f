-- The timer table by the history alone: each live timer and delay, with what is left of its wait.
use Rattle.std.proofs.Common.{◌≡◌, ℕ, zero, suc, ◌+◌, ◌-◌, ◌<◌, ◌≤◌, Bool, true, false, cond, not, ◌&&◌, ◌||◌, eqb, ltb, leb, ◌⊎◌, List, [], ◌∷◌, ◌++◌, Some, None, sym, refl, ap, ◌∙◌, ap₂, inl, inr, arith}
use Rattle.std.specs.List.{flat_map}
use Rattle.std.proofs.lemmas.Bool.{cond-false, ne_eqb, lt-ltb, le-ltb, le-leb, lt-leb, cases_lt}
use Rattle.sheet.specs.declared.event.Kind.TheVariants.{Cut}
use Rattle.table.specs.declared.timer.TimerPlace.{TimerPlace}
use Rattle.table.specs.Rows.{listed}
use Rattle.table.specs.Timers.{with_wait, timer_after}
use Rattle.table.proofs.Beats.{joined_append}
use Rattle.laws.specs.Histories.{Seen, History, History.powered, History.then}
use Rattle.laws.specs.Asks.{Verb.tick, Verb.ctime, Verb.timer, Verb.delay, of, does, does_to}
use Rattle.laws.specs.Laws.{one, tally, running, ticks, cuts, cancels, sleeps, stands}

abbrev pub only : Bool → TimerPlace → List TimerPlace
only b p = cond b (p ∷ []) []

-- what is left of a wait after so many ticks
abbrev pub left : ℕ → ℕ → ℕ → ℕ
left n c zero = n
left n c (suc k) = cond (leb (left n c k) 1) c (left n c k - 1)

abbrev pub at : Bool → ℕ → ℕ → ℕ → ℕ → ℕ → TimerPlace
at d t x n c k = record { delay = d; task = t; factor = x; wait = left n c k; cycle = c }

abbrev pub timer_at : Seen → ℕ → TimerPlace
timer_at e k = at false (of e).task (of e).x (of e).wait (of e).cycle k

abbrev pub delay_at : ℕ → Seen → ℕ → TimerPlace
delay_at r e k = at true r 0 (of e).wait 0 k

abbrev pub placed : ℕ → Seen → List Seen → List TimerPlace
placed r e later = only (stands e later) (timer_at e (ticks later)) ++ only (sleeps r e later) (delay_at r e (ticks later))

abbrev pub places_of : History → List Seen → List TimerPlace
places_of powered later = []
places_of (then h e) later = places_of h (e ∷ later) ++ placed (running h) e later

-- what a beat leaves of a place
abbrev pub beaten : TimerPlace → List TimerPlace
beaten p = listed (timer_after p)

-- what one more call leaves of a place
abbrev pub after : Seen → TimerPlace → List TimerPlace
after d p = cond (p.delay && ltb 0 (tally Cut p.task d.told)) []
    (cond (not p.delay && (does_to ctime p.task d && eqb (of d).x p.factor)) []
    (cond (does tick d) (beaten p) (p ∷ [])))

pub ticks_push : (later : List Seen) (d : Seen) → ticks (later ++ (d ∷ [])) ≡ cond (does tick d) (suc (ticks later)) (ticks later)
ticks_push [] d = elim (does tick d) as (λ b. one b + 0 ≡ cond b 1 0) [ true ↦ refl | false ↦ refl ]
ticks_push (e ∷ later) d =
    ap (λ n. one (does tick e) + n) (ticks_push later d)
    ∙ (elim (does tick d) as (λ b. one (does tick e) + cond b (suc (ticks later)) (ticks later) ≡ cond b (suc (one (does tick e) + ticks later)) (one (does tick e) + ticks later)) [ true ↦ omega arith | false ↦ refl ])

or_assoc : (a b c : Bool) → (a || (b || c)) ≡ ((a || b) || c)
or_assoc true b c = refl
or_assoc false b c = refl

or_false : (a : Bool) → (a || false) ≡ a
or_false true = refl
or_false false = refl

pub cuts_push : (t : ℕ) (later : List Seen) (d : Seen) → cuts t (later ++ (d ∷ [])) ≡ (cuts t later || ltb 0 (tally Cut t d.told))
cuts_push t [] d = or_false _
cuts_push t (e ∷ later) d = ap (λ b. ltb 0 (tally Cut t e.told) || b) (cuts_push t later d) ∙ or_assoc (ltb 0 (tally Cut t e.told)) (cuts t later) (ltb 0 (tally Cut t d.told))

pub cancels_push : (t x : ℕ) (later : List Seen) (d : Seen) → cancels t x (later ++ (d ∷ [])) ≡ (cancels t x later || (does_to ctime t d && eqb (of d).x x))
cancels_push t x [] d = or_false _
cancels_push t x (e ∷ later) d = ap (λ b. (does_to ctime t e && eqb (of e).x x) || b) (cancels_push t x later d) ∙ or_assoc (does_to ctime t e && eqb (of e).x x) (cancels t x later) (does_to ctime t d && eqb (of d).x x)

left_once : (n k : ℕ) → k < n → left n 0 k ≡ n - k
left_once n zero h = omega arith
left_once n (suc k) h =
    let i = left_once n k (omega arith) in
    cond-false (leb (left n 0 k) 1) 0 (left n 0 k - 1) (lt-leb (left n 0 k) 1 (omega arith)) ∙ (let z : left n 0 k - 1 ≡ n - suc k = omega arith in z)

-- a tick on a place that goes at its last beat
beat_gone : (d : Bool) (t x n k : ℕ) → listed (cond (d || eqb 0 0) None (Some (with_wait (at d t x n 0 k) 0))) ≡ []
beat_gone true t x n k = refl
beat_gone false t x n k = refl

beat_once : (d : Bool) (t x n k : ℕ) → only (ltb (suc k) n) (at d t x n 0 (suc k)) ≡ flat_map beaten (only (ltb k n) (at d t x n 0 k))
beat_once d t x n k = go (cases_lt (suc k) n) (cases_lt k n)
  where
    go : (suc k < n) ⊎ (n ≤ suc k) → (k < n) ⊎ (n ≤ k) → only (ltb (suc k) n) (at d t x n 0 (suc k)) ≡ flat_map beaten (only (ltb k n) (at d t x n 0 k))
    go (inl a) v =
        let w = left_once n k (omega arith) in
        let f : leb (left n 0 k) 1 ≡ false = lt-leb (left n 0 k) 1 (omega arith) in
        rw (lt-ltb (suc k) n a, lt-ltb k n (omega arith), f) refl
    go (inr a) (inl v) =
        let w = left_once n k (omega arith) in
        let f : leb (left n 0 k) 1 ≡ true = le-leb (left n 0 k) 1 (omega arith) in
        rw (le-ltb (suc k) n a, lt-ltb k n v, f, beat_gone d t x n k) refl
    go (inr a) (inr v) = rw (le-ltb (suc k) n a, le-ltb k n v) refl

beat_timer : (t x n c k : ℕ) → only (ltb 0 c || ltb (suc k) n) (at false t x n c (suc k)) ≡ flat_map beaten (only (ltb 0 c || ltb k n) (at false t x n c k))
beat_timer t x n zero k = beat_once false t x n k
beat_timer t x n (suc c) k =
    rw (lt-ltb 0 (suc c) (omega arith), ne_eqb (suc c) 0 (λ e. omega arith))
    (elim (leb (left n (suc c) k) 1) as (λ b. record { delay = false; task = t; factor = x; wait = cond b (suc c) (left n (suc c) k - 1); cycle = suc c } ∷ []
    ≡ listed (cond b (Some (with_wait (at false t x n (suc c) k) (suc c))) (Some (with_wait (at false t x n (suc c) k) (left n (suc c) k - 1)))) ++ []) [ true ↦ refl | false ↦ refl ])

step_only : (D C κ τ : Bool) (A : ℕ → Bool) (p : ℕ → TimerPlace) (f : TimerPlace → List TimerPlace) (k : ℕ)
    → f (p k) ≡ cond κ [] (cond τ (beaten (p k)) (p k ∷ []))
    → only (A (suc k)) (p (suc k)) ≡ flat_map beaten (only (A k) (p k))
    → only (D && (not (C || κ) && A (cond τ (suc k) k))) (p (cond τ (suc k) k)) ≡ flat_map f (only (D && (not C && A k)) (p k))
step_only false C κ τ A p f k e bt = refl
step_only true true κ τ A p f k e bt = refl
step_only true false true τ A p f k e bt = elim (A k) as (λ b. [] ≡ flat_map f (only b (p k))) [ true ↦ sym (ap (λ l. l ++ []) e) | false ↦ refl ]
step_only true false false false A p f k e bt = elim (A k) as (λ b. only b (p k) ≡ flat_map f (only b (p k))) [ true ↦ sym (ap (λ l. l ++ []) e) | false ↦ refl ]
step_only true false false true A p f k e bt = bt ∙ (elim (A k) as (λ b. flat_map beaten (only b (p k)) ≡ flat_map f (only b (p k))) [ true ↦ sym (ap (λ l. l ++ []) e) | false ↦ refl ])

placed_after : (r : ℕ) (e d : Seen) (later : List Seen) → placed r e (later ++ (d ∷ [])) ≡ flat_map (after d) (placed r e later)
placed_after r e d later =
    let tm : List Seen → List TimerPlace = λ l. only (stands e l) (timer_at e (ticks l)) in
    let dl : List Seen → List TimerPlace = λ l. only (sleeps r e l) (delay_at r e (ticks l)) in
    let A : ℕ → Bool = λ k. ltb 0 (of e).cycle || ltb k (of e).wait in
    let one-t : tm (later ++ (d ∷ [])) ≡ flat_map (after d) (tm later) =
    ap₂ (λ C k. only (does timer e && (not C && A k)) (timer_at e k)) (cancels_push (of e).task (of e).x later d) (ticks_push later d)
    ∙ step_only (does timer e) (cancels (of e).task (of e).x later) _ (does tick d) A (timer_at e) (after d) (ticks later) refl (beat_timer _ _ _ _ (ticks later)) in
    let one-d : dl (later ++ (d ∷ [])) ≡ flat_map (after d) (dl later) =
    ap₂ (λ C k. only (does delay e && (not C && ltb k (of e).wait)) (delay_at r e k)) (cuts_push r later d) (ticks_push later d)
    ∙ step_only (does delay e) (cuts r later) _ (does tick d) (λ k. ltb k (of e).wait) (delay_at r e) (after d) (ticks later) refl (beat_once true _ _ _ (ticks later)) in
    ap₂ (λ (a b : List TimerPlace). a ++ b) one-t one-d ∙ sym (joined_append (after d) (tm later) (dl later))

pub places_after : (h : History) (later : List Seen) (d : Seen) → places_of h (later ++ (d ∷ [])) ≡ flat_map (after d) (places_of h later)
places_after powered later d = refl
places_after (then h e) later d =
    ap₂ (λ (a b : List TimerPlace). a ++ b) (places_after h (e ∷ later) d) (placed_after (running h) e d later)
    ∙ sym (joined_append (after d) (places_of h (e ∷ later)) (placed (running h) e later))
