use Rattle.std.specs.Io.KnownBytes.{Keeps}
use Rattle.olr_records.proofs.source.read_uninterrupted.Given as goal

-- nothing was read so far
abbrev pub invariant-loop : goal.invariant-loop
invariant-loop g l = Keeps (g.R.Read.remaining l.initial.reader) (g.R.Read.remaining l.reader)
