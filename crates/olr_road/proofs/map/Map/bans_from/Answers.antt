use Rattle.olr_road.proofs.Common.{lines_in, arith}
use Rattle.olr_road.proofs.BansFrom.{bans_of_first}
use Rattle.olr_road.proofs.map.Map.bans_from.Goals as goal

pub returns : goal.returns
returns c = rw (← c.self.view_is) (bans_of_first
    (lines_in c.self.inside.points.items c.self.inside.entries.items) c.self.inside.bans
    c.self.invariant.sound.bans (omega arith) c.args.line c.of_first.result.now c.of_first.ensures)
