-- The listing, step by step and as a whole.
use Rattle.std.proofs.Common.{◌≡◌, ℕ, ◌+◌, Bool, List, [], ◌++◌, Some, None, Option, sym, refl, ap, ◌∙◌, add-one}
use Rattle.book.specs.declared.faults.Fault.{Fault}
use Rattle.book.specs.Verdict.{told}
use Rattle.book.specs.Reader.{steps_in}
use Rattle.laws.specs.Histories.{begun}
use Rattle.runner.specs.Lines.{lines_of_events, line_of_left, line_of_fault}
use Rattle.runner.specs.Scripts.{Progress, stepped}
use Rattle.runner.specs.declared.buffer.BufferedSink.{BufferedSink}
use Rattle.runner.specs.Sinks.{Took}
use Rattle.runner.specs.Listing.{powered_up, progress_after, step_lines, left_on, run_lines, listing_by, listing}
use Rattle.runner.proofs.Sent.{took_as, took_two}

module _ (lever : Bool) (b : List ℕ) where
  pub after_none : progress_after lever b 0 ≡ powered_up lever b
  unfolding progress_after
  after_none = refl

  pub after_more : (n : ℕ) → progress_after lever b (n + 1) ≡ (stepped b (progress_after lever b n)).progress
  unfolding progress_after
  after_more n = ap (progress_after lever b) (add-one n)

  pub lines_none : step_lines lever b 0 ≡ []
  unfolding step_lines
  lines_none = refl

  pub lines_after : (n : ℕ) → step_lines lever b (n + 1) ≡ step_lines lever b n ++ lines_of_events (n + 1) (stepped b (progress_after lever b n)).told
  unfolding step_lines
  lines_after n =
      ap (step_lines lever b) (add-one n) ∙ ap (λ (k : ℕ). step_lines lever b n ++ lines_of_events k (stepped b (progress_after lever b n)).told) (sym (add-one n))

  -- a book that is refused
  pub refused_listing : (f : Fault) → Some f ≡ told b → line_of_fault f ≡ listing lever b
  unfolding listing
  refused_listing f e = ap (λ (o : Option Fault). listing_by o lever b) e

  -- a book without faults
  pub clean_listing : None ≡ told b → run_lines lever b ≡ listing lever b
  unfolding listing
  clean_listing e = ap (λ (o : Option Fault). listing_by o lever b) e

  -- the three parts of a run
  module _ {M S : Type 0} {state : S → M} {took : M → List ℕ → M} (both : (m : M) (x y : List ℕ) → took (took m x) y ≡ took m (x ++ y)) where
    pub whole_run : {o₁ o₂ o₃ o₄ : BufferedSink S} (left : ℕ) (p : Progress) (line : List ℕ) → left ≡ left_on p → p ≡ progress_after lever b (steps_in b) → line ≡ line_of_left left
        → Took state took o₁ (lines_of_events 0 begun) o₂ → Took state took o₂ (step_lines lever b (steps_in b)) o₃ → Took state took o₃ line o₄ → Took state took o₁ (run_lines lever b) o₄
    unfolding run_lines
    whole_run left p line l q w t₁ t₂ t₃ =
        took_two both t₁ (took_two both t₂ (took_as (w ∙ ap line_of_left (l ∙ ap left_on q)) t₃))
