use Rattle.olr_detail.proofs.OneDetail as once
use Rattle.olr_detail.proofs.laws.one_detail.Goals as goal

pub returns-clause-candidate : goal.returns-clause-candidate
returns-clause-candidate c = once.one_detail c.laws_of_the_plane.ensures

pub returns-clause-listing : goal.returns-clause-listing
returns-clause-listing c = once.one_listing c.laws_of_the_plane.ensures

pub returns-clause-matching : goal.returns-clause-matching
returns-clause-matching c = once.one_matching c.laws_of_the_plane.ensures
