use Rattle.std.proofs.Common.{◌≡◌, ℕ, ◌+◌, ◌-◌, ◌<◌, ◌≤◌, ◌⊎◌, inl, inr, List, [], ◌++◌, None, Some, Option, IfSome, arith, length, take, sym, ap, ◌∙◌, subst, le_refl, append-nil, length-append, length-drop, length-take-le, take_all}
use Rattle.std.proofs.Math.Nat.{eq-or-lt_of_le}
use Rattle.std.proofs.Math.Seq.{take-append_seam, take-append-add}
use Rattle.std.proofs.lemmas.List.{take-append-le}
use Rattle.std.proofs.lemmas.Slice.{take-put_mid_below}
use Rattle.std.specs.Io.KnownBytes.{Consumes, IsAtEnd}
use Rattle.std.proofs.KnownBytes.{Consumes-trans, Consumes-kept}
use borrow.Rule.Slice.PartMut.{put_mid, post_of}
use Rattle.headgate.proofs.read_book.Goals as goal
use Rattle.headgate.proofs.read_book.Goals.{in-Ok, in-Err+else-ne}

-- what a read into the room behind len bytes leaves: those, and then what came
came : (len room n : ℕ) (old new : List ℕ) → len ≤ length old → n ≤ length new → take (len + n) (put_mid len room old new) ≡ take len old ++ take n new
came len room n old new within fits =
    let all = new ++ post_of len room old in
    let front = subst (λ m. take (m + n) (take len old ++ all) ≡ take len old ++ take n all) (length-take-le len old within) (take-append-add (take len old) all n) in
    front ∙ ap (λ l. take len old ++ l) (take-append-le n new (post_of len room old) fits)

-- the room keeps its length
same_length : (len room : ℕ) (old new : List ℕ) → len ≤ length old → len + room ≡ length old → length new ≡ room → length (put_mid len room old new) ≡ length old
same_length len room old new within whole same =
    let front = length-take-le len old within in
    let back : length (post_of len room old) ≡ length old - len - room = length-drop room _ ∙ ap (λ n. n - room) (length-drop len old) in
    omega (arith, length-append (take len old) (new ++ post_of len room old), length-append new (post_of len room old), front, back, whole, same)

-- what came is as much as there is room for, or all that there was
by_length : (bs xs rest : List ℕ) → xs ≡ bs ++ rest → length bs ≤ 65536 → (length bs < 65536 → rest ≡ []) → (length bs ≡ 65536) ⊎ (length bs < 65536) → bs ≡ take 65536 xs
by_length bs xs rest p short end (inl full) = subst (λ n. bs ≡ take n (bs ++ rest)) full (sym (take-append_seam bs rest)) ∙ ap (take 65536) (sym p)
by_length bs xs rest p short end (inr less) =
    let all = p ∙ ap (λ l. bs ++ l) (end less) ∙ append-nil bs in
    sym (ap (take 65536) all ∙ take_all 65536 bs short)

enough : (old new : Option (List ℕ)) (bs : List ℕ) → Consumes old new bs → length bs ≤ 65536 → (length bs < 65536 → IsAtEnd new) → IfSome old (λ all. bs ≡ take 65536 all)
enough None new bs p short end = tt
enough (Some xs) None bs p short end = absurd p
enough (Some xs) (Some rest) bs p short end = by_length bs xs rest p short end (eq-or-lt_of_le short)

pub returns-in-Ok-eq0-clause-bytes : goal.returns-in-Ok-eq0-clause-bytes
returns-in-Ok-eq0-clause-bytes g c =
    let len = c.loop.len in
    let old = c.loop.bytes in
    let new = c.read.new.buf in
    let within : len ≤ length old = omega (arith, c.loop.invariant.0, c.loop.invariant.1) in
    let long = length-take-le len old within in
    let nothing = ap (λ l. take len old ++ l) (ap (λ n. take n new) c.in-Ok-eq0.field-0-test) ∙ append-nil (take len old) in
    let read = subst (Consumes _ _) nothing (Consumes-trans _ _ _ _ _ c.loop.invariant.2 c.in-Ok-eq0.ensures.bytes.0) in
    let end = λ (less : length (take len old) < 65536). c.in-Ok-eq0.ensures.bytes.1 c.in-Ok-eq0.field-0-test (omega (arith, long, less, c.read.auto.buf)) in
    let told = enough _ _ (take len old) read (omega (arith, long, c.loop.invariant.1)) end in
    subst (λ l. IfSome (g.R.Read.remaining c.args.input) (λ all. l ≡ take 65536 all)) (sym (take-put_mid_below len (65536 - len) old new len (le_refl _) within)) told

pub loop-preserved : goal.loop-preserved
loop-preserved g c =
    let len = c.loop.len in
    let old = c.loop.bytes in
    let new = c.read.new.buf in
    let within : len ≤ length old = omega (arith, c.loop.invariant.0, c.loop.invariant.1) in
    let room : length new ≡ 65536 - len = omega (arith, c.read.auto.buf, c.loop.invariant.0, c.loop.invariant.1) in
    let long = same_length len (65536 - len) old new within (omega (arith, c.loop.invariant.0, c.loop.invariant.1)) room ∙ c.loop.invariant.0 in
    elim c.match-read.branch [
      | in-Ok w ↦
          let more = w.in-Ok.more in
          let fits = w.in-Ok.ensures.bound.0 in
          let read = Consumes-trans _ _ _ _ _ c.loop.invariant.2 w.in-Ok.ensures.bytes.0 in
          let all = came len (65536 - len) more old new within fits in
          let far : c.match-read.len ≡ len + more = omega (arith, w.len-is) in
          let joined = subst (Consumes _ _) (sym (ap (λ n. take n (put_mid len (65536 - len) old new)) far ∙ all)) read in
          (long, omega (arith, far, fits, room, c.loop.invariant.1), joined)
      | in-Err+else-ne w ↦
          let read = Consumes-kept _ _ _ _ c.loop.invariant.2 w.in-Err.ensures.bytes in
          let kept = ap (λ n. take n (put_mid len (65536 - len) old new)) w.len-is ∙ take-put_mid_below len (65536 - len) old new len (le_refl _) within in
          (long, omega (arith, w.len-is, c.loop.invariant.1), subst (Consumes _ _) (sym kept) read)
    ]
