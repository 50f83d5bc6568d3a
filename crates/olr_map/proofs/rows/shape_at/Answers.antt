use Rattle.olr_map.proofs.Columns.{no_value}
use Rattle.olr_map.proofs.rows.shape_at.Goals as goal

pub returns-else-branch : goal.returns-else-branch
returns-else-branch c = no_value _ c.in-Some.ensures
    (rw c.if-branch.false at c.in_ok-read_shape.ensures)
