use Rattle.olr_messages.proofs.FirstLine.{lines_of-last, lines_of-lf, no_more}
use Rattle.olr_messages.proofs.laws.lines.Goals as goal

pub returns : goal.returns
returns c = record { first = lines_of-lf; last = lines_of-last; empty = no_more }
