-- Positions in memory, and how events set them back.
use Rattle.std.proofs.Common.{◌≡◌, ℕ, ◌+◌, ◌<◌, ◌≤◌, Bool, true, false, cond, List, length, get_or, drop, replicate, sym, ap, ◌∙◌, inl, inr}
use Rattle.std.proofs.lemmas.List.{get_or-replicate, get_or_past, length-replicate, at_drop_more, at_drop_all}
use Rattle.std.proofs.lemmas.Bool.{cases_lt}
use Rattle.sheet.specs.declared.event.Event.{Event}
use Rattle.sheet.specs.declared.event.Kind.TheVariants.{Accepted}
use Rattle.sheet.specs.Events.{event}
use Rattle.roll.specs.Tables.{put}
use Rattle.runner.specs.declared.positions.Position.{Position}
use Rattle.runner.specs.Scripts.{beginning, finishes, set_back, set_back_by}

-- in a row of equal items there is nothing else, nor past its end
pub all_same : {A : Type 0} (n t : ℕ) (x : A) → get_or (replicate n x) t x ≡ x
all_same n t x =
    elim (cases_lt t n) [
      | inl lt ↦ get_or-replicate n t x x lt
      | inr ge ↦ get_or_past (replicate n x) t x (simp length-replicate ge)
    ]

same_position : {r r' x x' : ℕ} → r ≡ r' → x ≡ x' → ◌≡◌ {A = Position} (record { row = r; register = x }) (record { row = r'; register = x' })
same_position p q = cc

-- where both parts are 0
pub at_beginning : (p : Position) → (p.row ≡ 0) × (p.register ≡ 0) → p ≡ beginning
at_beginning p e = same_position e.0 e.1

pub back_then : (ps qs : ℕ → Position) (e : Event) (p : Position) → true ≡ finishes e.kind → p ≡ beginning → qs ≡ put ps e.task p → qs ≡ set_back ps e
back_then ps qs e p h q w =
    w ∙ ap (λ (x : Position). put ps e.task x) q ∙ ap (λ (b : Bool). cond b (put ps e.task beginning) ps) h

pub back_else : (ps : ℕ → Position) (e : Event) → false ≡ finishes e.kind → ps ≡ set_back ps e
back_else ps e h = ap (λ (b : Bool). cond b (put ps e.task beginning) ps) h

-- the i-th event sets the positions ps back to qs
pub back_more : (ps qs : ℕ → Position) (es : List Event) (i : ℕ) → i < length es → qs ≡ set_back ps (get_or es i (event Accepted 0)) → set_back_by qs (drop (i + 1) es) ≡ set_back_by ps (drop i es)
unfolding set_back_by
back_more ps qs es i lt e =
    ap (λ (f : ℕ → Position). set_back_by f (drop (i + 1) es)) e ∙ sym (at_drop_more (set_back_by ps) es i (event Accepted 0) lt)

pub back_all : (ps : ℕ → Position) (es : List Event) (i : ℕ) → length es ≤ i → set_back_by ps (drop i es) ≡ ps
unfolding set_back_by
back_all ps es i le = at_drop_all (set_back_by ps) es i le
