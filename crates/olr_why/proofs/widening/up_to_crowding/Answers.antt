use Rattle.olr_why.proofs.widening.up_to_crowding.Goals as goal

pub returns : goal.returns
returns c = c.up_to.ensures _ _ _ _ c.requires.name c.requires.bracket c.in_ok-value.ensures.crowded
