use Rattle.std.proofs.Common.{length, ◌-◌}
use Rattle.olr_keys.proofs.search.+descend.Given as goal

abbrev pub decreases-descend : goal.decreases-descend
decreases-descend l = length l.rows.now.penalties.candidates - l.rest.layer
