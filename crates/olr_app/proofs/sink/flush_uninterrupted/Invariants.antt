use Rattle.std.specs.Io.KnownBytes.{Keeps}
use Rattle.olr_app.proofs.sink.flush_uninterrupted.Given as goal

-- nothing was written so far
abbrev pub invariant-loop : goal.invariant-loop
invariant-loop g l = Keeps (g.W.Write.contents l.initial.writer) (g.W.Write.contents l.writer)
