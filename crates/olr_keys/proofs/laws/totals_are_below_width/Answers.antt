use Rattle.olr_keys.proofs.Sizes.{remaining_below, total_below}
use Rattle.olr_keys.proofs.laws.totals_are_below_width.Goals as goal

pub returns-clause-remaining : goal.returns-clause-remaining
returns-clause-remaining c = remaining_below

pub returns-clause-totals : goal.returns-clause-totals
returns-clause-totals c = total_below
