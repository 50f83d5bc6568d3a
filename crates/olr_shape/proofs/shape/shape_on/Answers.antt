use Rattle.std.proofs.Common.{◌∙◌, ap}
use Rattle.std.specs.List.{dedup}
use Rattle.olr_shape.specs.Shape.{is_same, shape_on, with_two_spots}
use Rattle.olr_shape.proofs.shape.shape_on.Goals as goal

pub returns : goal.returns
unfolding shape_on
returns c = c.in_ok-repeat_single.ensures
    ∙ ap with_two_spots (c.leave_once.ensures ∙ ap (dedup is_same) c.in_ok-shape.ensures)
