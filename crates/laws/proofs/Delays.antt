-- How many delays of a task stand in the timer table, and how that fits the marks of its entries.
use Rattle.std.proofs.Common.{◌≡◌, ℕ, ◌+◌, Bool, true, false, cond, not, ◌&&◌, eqb, List, [], ◌∷◌, ◌++◌, filter, sym, refl, ap, ◌∙◌, arith}
use Rattle.std.specs.List.{AllByRecursion as All}
use Rattle.table.specs.declared.timer.TimerPlace.{TimerPlace}
use Rattle.table.specs.declared.selection.Selection.TheVariants.{Delay}
use Rattle.table.specs.Timers.{timer_selected}
use Rattle.laws.specs.Laws.{one}
use Rattle.laws.proofs.Marks.{Tri, Tri.same, Tri.apart, Tri.other, tri, through, head_set}

-- whether the place is a delay of t
abbrev pub delay_of : ℕ → TimerPlace → Bool
delay_of t p = timer_selected (Delay t) p

-- how many delays of t there are
abbrev pub delays_of : ℕ → List TimerPlace → ℕ
delays_of t [] = 0
delays_of t (p ∷ ps) = one (delay_of t p) + delays_of t ps

pub delays_append : (t : ℕ) (xs ys : List TimerPlace) → delays_of t (xs ++ ys) ≡ delays_of t xs + delays_of t ys
delays_append t [] ys = omega arith
delays_append t (p ∷ ps) ys = let i = delays_append t ps ys in omega arith

pub delays_cut : (u t : ℕ) (ps : List TimerPlace) → delays_of t (filter (λ p. not (delay_of u p)) ps) ≡ cond (eqb u t) 0 (delays_of t ps)
delays_cut u t [] = elim (eqb u t) as (λ c. ◌≡◌ {A = ℕ} 0 (cond c 0 0)) [ true ↦ refl | false ↦ refl ]
delays_cut u t (p ∷ ps) = through (delays_of t) (not (delay_of u p)) (p ∷ filter (λ p. not (delay_of u p)) ps) (filter (λ p. not (delay_of u p)) ps) ∙ go p.delay (tri p.task u t) (delays_cut u t ps)
  where
    go : (d : Bool) {A B C : Bool} → Tri A B C → delays_of t (filter (λ p. not (delay_of u p)) ps) ≡ cond C 0 (delays_of t ps)
        → cond (not (d && A)) (one (d && B) + delays_of t (filter (λ p. not (delay_of u p)) ps)) (delays_of t (filter (λ p. not (delay_of u p)) ps))
        ≡ cond C 0 (one (d && B) + delays_of t ps)
    go true (same true) i = i
    go true (same false) i = omega arith
    go true (apart B) i = ap (λ n. one B + n) i
    go true other i = omega arith
    go false (same true) i = omega arith
    go false (same false) i = omega arith
    go false (apart B) i = omega arith
    go false other i = omega arith

-- the marks of a task and the number of its delays: its oldest entry sleeps exactly if there is one
abbrev pub Fits : List Bool → ℕ → Type 0
Fits [] n = n ≡ 0
Fits (b ∷ bs) n = (n ≡ one b) × All (λ c. c ≡ false) bs

all_false_push : (bs : List Bool) → All (λ c. c ≡ false) bs → All (λ c. c ≡ false) (bs ++ (false ∷ []))
all_false_push [] h = (refl, tt)
all_false_push (b ∷ bs) h = (h.0, all_false_push bs h.1)

pub fits_push : (l : List Bool) (n : ℕ) → Fits l n → Fits (l ++ (false ∷ [])) n
fits_push [] n g = (g, tt)
fits_push (b ∷ bs) n g = (g.0, all_false_push bs g.1)

pub fits_rest : (bs : List Bool) (n : ℕ) → Fits (false ∷ bs) n → Fits bs n
fits_rest [] n g = g.0
fits_rest (c ∷ cs) n g = (g.0 ∙ sym (ap one g.1.0), g.1.1)

pub fits_sleep : (bs : List Bool) (n : ℕ) → Fits (false ∷ bs) n → Fits (true ∷ bs) (n + 1)
fits_sleep bs n g = ((let z = g.0 in omega arith), g.1)

pub fits_wake : (l : List Bool) (n : ℕ) → Fits l (n + 1) → Fits (head_set false l) n
fits_wake [] n g = absurd (let z : ⊥ = omega arith in z)
fits_wake (true ∷ bs) n g = ((let z = g.0 in omega arith), g.1)
fits_wake (false ∷ bs) n g = absurd (let y = g.0 in let z : ⊥ = omega arith in z)
