-- Lemmas on what stands at the front of a sheet, for whoever writes one.
use Rattle.std.proofs.Common.{◌≡◌, ℕ, ◌+◌, ◌-◌, ◌<◌, ◌≤◌, List, [], ◌∷◌, ◌++◌, length, take, drop, set, sym, refl, ap, ◌∙◌, append_assoc, arith}
use borrow.Rule.Slice.PartMut.{put_mid, post_of}
use Rattle.std.proofs.lemmas.List.{take_more_set, drop-set-lt, length-set, length-take-le, take-append-drop, append-nil, take_at, drop_at, drop_all, drop-drop, take_rest, length-append, length-drop}
use Rattle.sheet.specs.Sheets.{written}

module _ {X : Type 0} where
  -- The rows stand in the first n places of a sheet that began as `given`, and the rest is as it was.
  pub record Writing (rows given sheet : List X) (n : ℕ) : Type 0 where
    pub front : take n sheet ≡ rows
    pub rest : drop n sheet ≡ drop n given
    pub long : length sheet ≡ length given

  pub writing_none : (given : List X) → Writing [] given given 0
  writing_none given = record { front = refl; rest = refl; long = refl }

  pub writing_more : {rows given sheet : List X} {n : ℕ} → Writing rows given sheet n → n < length sheet → (x : X) → Writing (rows ++ (x ∷ [])) given (set sheet n x) (n + 1)
  writing_more {rows} {given} {sheet} {n} w lt x =
      let lt1 : n < n + 1 = omega arith in
      let past : drop (n + 1) sheet ≡ drop (n + 1) given = sym (drop-drop 1 n sheet) ∙ ap (drop 1) w.rest ∙ drop-drop 1 n given in
      record {
        front = take_more_set sheet n x lt ∙ ap (λ l. l ++ (x ∷ [])) w.front;
        rest = drop-set-lt (n + 1) sheet n x lt1 ∙ past;
        long = length-set sheet n x ∙ w.long;
      }

  pub writing_count : {rows given sheet : List X} {n : ℕ} → Writing rows given sheet n → n ≤ length sheet → n ≡ length rows
  writing_count {rows} {given} {sheet} {n} w le = sym (length-take-le n sheet le) ∙ ap length w.front

  pub writing_all : {rows given sheet : List X} {n : ℕ} → Writing rows given sheet n → n ≤ length sheet → sheet ≡ written rows given
  writing_all {rows} {given} {sheet} {n} w le =
      sym (take-append-drop n sheet) ∙ ap (λ l. l ++ drop n sheet) w.front ∙ ap (λ l. rows ++ l) w.rest
      ∙ ap (λ k. rows ++ drop k given) (writing_count w le)

  -- to write as many records as fit keeps the sheet's length
  pub length_written : (rows given : List X) → length rows ≤ length given → length (written rows given) ≡ length given
  length_written rows given h = simp (length-append, length-drop) (omega arith)

  -- what is written into the rest of a sheet that was lent from its n-th record on, `&mut sheet[n..]`, stands behind
  pub written_behind : (front back given sheet rest : List X) (n : ℕ) → n ≡ length front → sheet ≡ written front given →
      rest ≡ written back (take (length sheet - n) (drop n sheet)) →
      put_mid n (length sheet - n) sheet rest ≡ written (front ++ back) given
  written_behind front back given sheet rest n e w₁ w₂ =
      let left : drop n sheet ≡ drop n given = ap (drop n) w₁ ∙ drop_at front (drop (length front) given) n (sym e) ∙ ap (λ k. drop k given) (sym e) in
      let head : take n sheet ≡ front = ap (take n) w₁ ∙ take_at front (drop (length front) given) n (sym e) in
      let short : length (drop n sheet) ≤ length sheet - n = omega (arith, length-drop n sheet) in
      let none : drop (length sheet - n) (drop n sheet) ≡ [] = drop_all (length sheet - n) (drop n sheet) short in
      let tail : drop (length back) (drop n given) ≡ drop (length (front ++ back)) given =
      drop-drop (length back) n given ∙ ap (λ k. drop (k + length back) given) e ∙ ap (λ k. drop k given) (sym (length-append front back)) in
      ap (λ l. l ++ (rest ++ post_of n (length sheet - n) sheet)) head
      ∙ ap (λ l. front ++ (rest ++ l)) none
      ∙ ap (λ l. front ++ l) (append-nil rest ∙ w₂ ∙ ap (written back) (take_rest sheet n ∙ left) ∙ ap (λ l. back ++ l) tail)
      ∙ sym (append_assoc front back (drop (length (front ++ back)) given))
