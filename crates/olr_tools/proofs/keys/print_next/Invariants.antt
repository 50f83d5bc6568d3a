-- Each call leaves the list of keys as it is, so the key stays one of it.
use Rattle.std.specs.Prelude.{Contains}
use Rattle.olr_keys.specs.AnswersOf.{answers_of}
use Rattle.olr_tools.proofs.keys.print_next.Given as goal

abbrev pub invariant-loop-call : goal.invariant-loop-call
invariant-loop-call l = Contains (answers_of l.finder.penalties) l.key
