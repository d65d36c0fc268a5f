-- What is known of a row that was handed out.
use Rattle.std.proofs.Common.{◌≡◌, ℕ, ◌+◌, ◌<◌, ◌≤◌, true, List, length, get_or, take, drop, Some, None, Option, sym, refl, ap, ◌∙◌, subst, add-zero, arith, Bor}
use Rattle.std.proofs.lemmas.List.{length-take-le, length-drop, get_or-take, get_or-drop}
use Rattle.book.specs.Letters.{known}
use Rattle.book.specs.Verdict.{told, clean}
use Rattle.book.specs.Reader.{script_place, Handed}
use Rattle.book.proofs.Clean.{Placed, placed}

-- xs are the twelve bytes of instruction i of the script of task t, which begin at a place of the book
pub record Row (b : List ℕ) (t i : ℕ) (xs : List ℕ) : Type 0 where
  pub place : ℕ
  pub found : script_place b t i ≡ Some place
  pub twelve : length xs ≡ 12
  pub same : (k : ℕ) → k < 12 → get_or xs k 0 ≡ get_or b (place + k) 0
  pub letter : known (get_or xs 0 0) ≡ true
  pub zero : get_or xs 3 0 ≡ 0

same_byte : (b xs : List ℕ) (p k : ℕ) → xs ≡ take 12 (drop p b) → k < 12 → get_or xs k 0 ≡ get_or b (p + k) 0
same_byte b xs p k e h = ap (λ (ys : List ℕ). get_or ys k 0) e ∙ (get_or-take 12 (drop p b) k 0 h ∙ get_or-drop p b k 0)

row_at : (b : List ℕ) (t i p : ℕ) (xs : List ℕ) → script_place b t i ≡ Some p → Placed b t i p → xs ≡ take 12 (drop p b) → Row b t i xs
row_at b t i p xs q w e =
    let long : 12 ≤ length (drop p b) = rw length-drop (omega (arith, w.within)) in
    let first : get_or xs 0 0 ≡ get_or b p 0 = same_byte b xs p 0 e (omega arith) ∙ ap (λ (m : ℕ). get_or b m 0) (add-zero p) in
    record {
      place = p;
      found = q;
      twelve = ap length e ∙ length-take-le 12 (drop p b) long;
      same = λ k h. same_byte b xs p k e h;
      letter = subst (λ (m : ℕ). known m ≡ true) (sym first) w.letter;
      zero = same_byte b xs p 3 e (omega arith) ∙ w.zero;
    }

row_by : (s : Bor (List ℕ)) (t i : ℕ) (r : Bor (List ℕ)) (o : Option ℕ) → clean (told s.now) ≡ true → script_place s.now t i ≡ o
    → Handed s o (Some r) → Row s.now t i r.now
row_by s t i r None c q h = absurd h
row_by s t i r (Some p) c q h = row_at s.now t i p r.now q (placed s.now t i p c q) h.0

pub row_handed : (s : Bor (List ℕ)) (t i : ℕ) (r : Bor (List ℕ)) → clean (told s.now) ≡ true
    → Handed s (script_place s.now t i) (Some r) → Row s.now t i r.now
row_handed s t i r c h = row_by s t i r (script_place s.now t i) c refl h
