use Rattle.olr_why.proofs.Widened as widened
use Rattle.olr_why.proofs.wider.wider_keeps.Goals as goal

pub returns : goal.returns
returns c = widened.wider_keeps c.one_candidate_a_line.ensures
