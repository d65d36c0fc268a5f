-- What has gone to a sink, with what still waits for it.
use Rattle.std.specs.Prelude.{◌≡◌, ℕ, List}
use Rattle.runner.specs.declared.buffer.BufferedSink.{BufferedSink}

-- the model of the sink once it has the bytes that wait
abbrev pub sent : {M S : Type 0} → (S → M) → (M → List ℕ → M) → BufferedSink S → M
sent state took b = took (state b.sink.now) b.waiting.bytes

-- The same sink later, once these bytes have gone to it too or wait for it.
pub record Took {M S : Type 0} (state : S → M) (took : M → List ℕ → M) (before : BufferedSink S) (bytes : List ℕ) (after : BufferedSink S) : Type 0 where
  pub same_reference : after.sink.ghost_name ≡ before.sink.ghost_name
  pub has : sent state took after ≡ took (sent state took before) bytes
