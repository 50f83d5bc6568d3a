use Rattle.clap.specs.Words.{first_value, found_of}
use Rattle.olr_words.proofs.TolerancesRead.{AreRead}
use Rattle.olr_words.proofs.reading.tolerances_in.Given as goal

abbrev pub invariant-loop-name : goal.invariant-loop-name
invariant-loop-name l = AreRead (first_value (found_of l.fn.found)) l.name-index l.tolerances
