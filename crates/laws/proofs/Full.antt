-- A timer or delay is answered full exactly when 64 are live.
use Rattle.std.proofs.Common.{◌≡◌, ℕ, ◌≤◌, true, false, cond, ◌⊎◌, [], length, sym, refl, ap, ◌∙◌, inl, inr, arith}
use Rattle.std.proofs.lemmas.Bool.{cases_Bool, le-ltb, le-leb, ne_eqb, leb-true, leb-false}
use Rattle.rules.specs.declared.call.Call.{Call}
use Rattle.rules.specs.declared.answer.Code.TheVariants.{Done, TableFull}
use Rattle.rules.specs.Codes.{number_of}
use Rattle.rules.specs.State.{Setup, State, running as first}
use Rattle.rules.specs.Tables.{timers_full}
use Rattle.rules.specs.Refusals.{Step, refused}
use Rattle.rules.specs.Calls.{called}
use Rattle.laws.specs.Histories.{History, History.then}
use Rattle.laws.specs.Laws.{one, live, Sets, Sets.delays, Sets.times, Full, Numbered}
use Rattle.laws.proofs.Live.{live_length}
use Rattle.laws.proofs.Steps.{saw}
use Rattle.laws.proofs.Tied.{Tied}

number_is : (s : State) (done : Step) → done.code ≡ Done → number_of (cond (timers_full s) (refused s TableFull) done).code ≡ one (timers_full s)
number_is s done h = elim (timers_full s) as (λ f. number_of (cond f (refused s TableFull) done).code ≡ one f) [ true ↦ refl | false ↦ ap number_of h ]

-- past the earlier checks, the number is that of the table's test
code_is : (b : Setup) (s : State) (c : Call) (room : ℕ) → Numbered b → 100 ≤ room → (first s.tasks ≡ 0 → ⊥) → Sets b c → number_of (called b s c room).code ≡ one (timers_full s)
code_is b s c room m l i (delays {n = n} p q) =
    rw (le-ltb room 100 l, ne_eqb (first s.tasks) 0 i, le-leb 1 n p, le-leb n 86400000 q) (number_is s _ refl)
code_is b s c room m l i (times {t = t} {n = n} {c = y} {x = x} g p q v w) =
    let u = m t g in
    rw (le-ltb room 100 l, ne_eqb (first s.tasks) 0 i, le-leb 1 t u.0, le-leb t 128 (omega arith), le-leb 1 n p, le-leb n 86400000 q, le-leb y 86400000 v, le-leb x 16 w, g) (number_is s _ refl)

pub full_next : (b : Setup) (h : History) (s : State) (c : Call) (room : ℕ) → Tied b h s → Full b (then h (saw c room (called b s c room)))
full_next b h s c room t y =
    let k = t.runner in let p = y.issuer in
    let e = code_is b s c room t.fit.book y.sheet (λ z. omega arith) y.sets in
    let n : live h [] ≡ length s.timers = live_length h [] ∙ ap length (sym t.timers) in
    go (cases_Bool (timers_full s)) e n
  where
    go : (timers_full s ≡ true) ⊎ (timers_full s ≡ false) → number_of (called b s c room).code ≡ one (timers_full s) → live h [] ≡ length s.timers
        → (number_of (called b s c room).code ≡ 1 → live h [] ≡ 64) × (live h [] ≡ 64 → number_of (called b s c room).code ≡ 1)
    go (inl f) e n = ((λ _. (let a = leb-true 64 (length s.timers) f in let d = t.fit.few in omega arith)), (λ _. e ∙ ap one f))
    go (inr f) e n = ((λ g. absurd (let a : one (timers_full s) ≡ 0 = ap one f in let z : ⊥ = omega arith in z)), (λ g. absurd (let a = leb-false 64 (length s.timers) f in let z : ⊥ = omega arith in z)))
