use Rattle.olr_report.proofs.ShapeValues.{line_drawn, point_drawn}
use Rattle.olr_report.proofs.shape_json.shape_of.Goals as goal

pub returns-in_ok-shape_of_part-in-Line-2 : goal.returns-in_ok-shape_of_part-in-Line-2
returns-in_ok-shape_of_part-in-Line-2 c = rw c.in-Line.is (line_drawn c.args.map.now
    c.args.route.now c.in_ok-drawn.drawn
    c.in_ok-drawn.ensures c.in-Line.outer c.in-Line.inner _ _
    c.in_ok-shape_of_part-in-Line.ensures c.in_ok-shape_of_part-in-Line-2.ensures)

pub returns-in-Point : goal.returns-in-Point
returns-in-Point c = rw c.in-Point.is (point_drawn c.args.map.now
    c.args.route.now c.in_ok-drawn.drawn c.in_ok-drawn.ensures c.in-Point.earliest
    c.in-Point.latest)
