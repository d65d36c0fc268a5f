-- How many timers and delays are live, and who sleeps, from the table by the history.
use Rattle.std.proofs.Common.{◌≡◌, ℕ, ◌+◌, Bool, true, false, ◌&&◌, ◌||◌, eqb, ltb, List, ◌∷◌, ◌++◌, length, sym, refl, ap, ◌∙◌, arith, length-append}
use Rattle.std.proofs.lemmas.Bool.{lt-ltb}
use Rattle.table.specs.declared.timer.TimerPlace.{TimerPlace}
use Rattle.laws.specs.Histories.{Seen, History, History.powered, History.then}
use Rattle.laws.specs.Laws.{one, running, ticks, sleeps, stands, live, asleep}
use Rattle.laws.proofs.Delays.{delays_of, delays_append}
use Rattle.laws.proofs.Timers.{only, timer_at, delay_at, placed, places_of}

length_only : (b : Bool) (p : TimerPlace) → length (only b p) ≡ one b
length_only true p = refl
length_only false p = refl

pub live_length : (h : History) (later : List Seen) → live h later ≡ length (places_of h later)
live_length powered later = refl
live_length (then h e) later =
    let a = live_length h (e ∷ later) in
    let b = length-append (places_of h (e ∷ later)) (placed (running h) e later) in
    let c = length-append (only (stands e later) (timer_at e (ticks later))) (only (sleeps (running h) e later) (delay_at (running h) e (ticks later))) in
    let f = length_only (stands e later) (timer_at e (ticks later)) in
    let g = length_only (sleeps (running h) e later) (delay_at (running h) e (ticks later)) in
    omega arith

or_more : (A B : Bool) (n : ℕ) → A ≡ ltb 0 n → (A || B) ≡ ltb 0 (n + one B)
or_more A true n h = go A
  where
    go : (A : Bool) → (A || true) ≡ ltb 0 (n + 1)
    go true = sym (lt-ltb 0 (n + 1) (omega arith))
    go false = sym (lt-ltb 0 (n + 1) (omega arith))
or_more A false n h = go A h
  where
    go : (A : Bool) → A ≡ ltb 0 n → (A || false) ≡ ltb 0 (n + 0)
    go true h = h ∙ ap (λ k. ltb 0 k) (let z : n ≡ n + 0 = omega arith in z)
    go false h = h ∙ ap (λ k. ltb 0 k) (let z : n ≡ n + 0 = omega arith in z)

delays_placed : (t r : ℕ) (e : Seen) (later : List Seen) → delays_of t (placed r e later) ≡ one (eqb r t && sleeps r e later)
delays_placed t r e later = go (stands e later) (sleeps r e later)
  where
    go : (S L : Bool) → delays_of t (only S (timer_at e (ticks later)) ++ only L (delay_at r e (ticks later))) ≡ one (eqb r t && L)
    go true true = elim (eqb r t) as (λ q. 0 + (one q + 0) ≡ one (q && true)) [ true ↦ refl | false ↦ refl ]
    go true false = elim (eqb r t) as (λ q. 0 + 0 ≡ one (q && false)) [ true ↦ refl | false ↦ refl ]
    go false true = elim (eqb r t) as (λ q. one q + 0 ≡ one (q && true)) [ true ↦ refl | false ↦ refl ]
    go false false = elim (eqb r t) as (λ q. 0 ≡ one (q && false)) [ true ↦ refl | false ↦ refl ]

pub asleep_delays : (t : ℕ) (h : History) (later : List Seen) → asleep t h later ≡ ltb 0 (delays_of t (places_of h later))
asleep_delays t powered later = refl
asleep_delays t (then h e) later =
    or_more (asleep t h (e ∷ later)) (eqb (running h) t && sleeps (running h) e later) (delays_of t (places_of h (e ∷ later))) (asleep_delays t h (e ∷ later))
    ∙ ap (λ n. ltb 0 n) (let a = delays_append t (places_of h (e ∷ later)) (placed (running h) e later) in let c = delays_placed t (running h) e later in
    let z : delays_of t (places_of h (e ∷ later)) + one (eqb (running h) t && sleeps (running h) e later) ≡ delays_of t (places_of h (e ∷ later) ++ placed (running h) e later) = omega arith in z)
