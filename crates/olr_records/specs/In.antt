-- What a contract sees of a source over a reader.
use Rattle.std.specs.Prelude.{ℕ}
use Rattle.olr_records.specs.declared.source.In.{In}

-- the reader underneath
abbrev pub reader_of : {R : Type 0} → In R → R
reader_of source = source.reader

-- how many calls failed so far
abbrev pub failures_of : {R : Type 0} → In R → ℕ
failures_of source = source.failures
