use Rattle.olr_shape.proofs.Ends.{have_spots}
use Rattle.olr_shape.proofs.laws.places_have_spots.Goals as goal

pub returns : goal.returns
returns c = have_spots c.laws_of_the_plane.ensures
