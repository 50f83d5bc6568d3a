-- What a contract sees of a sink over a writer.
use Rattle.std.specs.Prelude.{ℕ}
use Rattle.olr_app.specs.declared.sink.Out.{Out}

-- the writer underneath
abbrev pub writer_of : {W : Type 0} → Out W → W
writer_of out = out.writer

-- how many calls failed so far
abbrev pub failures_of : {W : Type 0} → Out W → ℕ
failures_of out = out.failures
