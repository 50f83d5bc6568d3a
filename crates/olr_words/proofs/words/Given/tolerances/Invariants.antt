use Rattle.olr_words.proofs.GivenTolerances.{AreUpTo}
use Rattle.olr_words.proofs.words.Given.tolerances.Given as goal

abbrev pub invariant-loop-name : goal.invariant-loop-name
invariant-loop-name l = AreUpTo l.self l.name-index l.tolerances
