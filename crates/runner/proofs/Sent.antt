-- What goes to a sink piece by piece.
use Rattle.std.proofs.Common.{◌≡◌, ℕ, ◌+◌, ◌<◌, ◌≤◌, List, [], ◌∷◌, ◌++◌, length, get_or, take, sym, refl, ap, ◌∙◌}
use Rattle.std.proofs.lemmas.List.{take_more, take_all, flat_map_more, append_assoc}
use Rattle.sheet.specs.declared.event.Event.{Event}
use Rattle.sheet.specs.declared.event.Kind.TheVariants.{Accepted}
use Rattle.sheet.specs.Events.{event}
use Rattle.runner.specs.declared.buffer.BufferedSink.{BufferedSink}
use Rattle.runner.specs.Lines.{line_of_event, lines_of_events}
use Rattle.runner.specs.Sinks.{sent, Took}

lines_more : (step : ℕ) (es : List Event) (i : ℕ) → i < length es → lines_of_events step (take i es) ++ line_of_event step (get_or es i (event Accepted 0)) ≡ lines_of_events step (take (i + 1) es)
lines_more step es i lt =
    flat_map_more (line_of_event step) [] (take i es) (get_or es i (event Accepted 0)) ∙ ap (lines_of_events step) (sym (take_more es i (event Accepted 0) lt))

lines_both : (step : ℕ) (a b : List Event) → lines_of_events step a ++ lines_of_events step b ≡ lines_of_events step (a ++ b)
lines_both step [] b = refl
lines_both step (e ∷ a) b = append_assoc (line_of_event step e) (lines_of_events step a) (lines_of_events step b) ∙ ap (λ (l : List ℕ). line_of_event step e ++ l) (lines_both step a b)

module _ {M S : Type 0} {state : S → M} {took : M → List ℕ → M} where
  pub took_as : {a b : BufferedSink S} {x y : List ℕ} → x ≡ y → Took state took a x b → Took state took a y b
  took_as {a} e t = record { same_reference = t.same_reference; has = t.has ∙ ap (took (sent state took a)) e }

  pub took_none : ((m : M) → took m [] ≡ m) → (a : BufferedSink S) → Took state took a [] a
  took_none none a = record { same_reference = refl; has = sym (none (sent state took a)) }

  -- all events have been gone through
  pub events_all : {a b : BufferedSink S} (step : ℕ) (es : List Event) (i : ℕ) → length es ≤ i → Took state took a (lines_of_events step (take i es)) b → Took state took a (lines_of_events step es) b
  events_all step es i le t = took_as (ap (lines_of_events step) (take_all i es le)) t

  module _ (both : (m : M) (a b : List ℕ) → took (took m a) b ≡ took m (a ++ b)) where
    -- one piece after the other
    pub took_two : {a b c : BufferedSink S} {x y : List ℕ} → Took state took a x b → Took state took b y c → Took state took a (x ++ y) c
    took_two {a} {b} {c} {x} {y} p q = record {
      same_reference = q.same_reference ∙ p.same_reference;
      has = q.has ∙ ap (λ (m : M). took m y) p.has ∙ both (sent state took a) x y;
    }

    -- the line of one event more
    pub events_more : {a b c : BufferedSink S} (step : ℕ) (es : List Event) (i : ℕ) {line : List ℕ} → i < length es → line ≡ line_of_event step (get_or es i (event Accepted 0))
        → Took state took a (lines_of_events step (take i es)) b → Took state took b line c → Took state took a (lines_of_events step (take (i + 1) es)) c
    events_more step es i lt e p q = took_as (ap (λ (l : List ℕ). lines_of_events step (take i es) ++ l) e ∙ lines_more step es i lt) (took_two p q)

    -- the events of a row, and then those of a tick
    pub events_both : {a b c : BufferedSink S} (step : ℕ) {row row' tick tick' : List Event} → row' ≡ row → tick' ≡ tick
        → Took state took a (lines_of_events step row') b → Took state took b (lines_of_events step tick') c → Took state took a (lines_of_events step (row ++ tick)) c
    events_both step {row} {row'} {tick} {tick'} r t p q =
        took_as (ap (λ (l : List Event). lines_of_events step l ++ lines_of_events step tick') r ∙ ap (λ (l : List Event). lines_of_events step row ++ lines_of_events step l) t ∙ lines_both step row tick) (took_two p q)
