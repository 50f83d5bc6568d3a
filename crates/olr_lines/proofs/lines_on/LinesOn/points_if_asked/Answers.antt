use Rattle.std.specs.Prelude.{slice_get}
use Rattle.olr_lines.proofs.Shown.{points_are}
use Rattle.olr_lines.proofs.lines_on.LinesOn.points_if_asked.Goals as goal

pub returns-then-self : goal.returns-then-self
returns-then-self c = rw c.if-self.true (points_are (slice_get c.args.self.now.map.now.lines c.args.rank) c.points.result c.points.ensures.points)
