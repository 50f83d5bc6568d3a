use Rattle.olr_candidates.proofs.NearWindow.{covers_radius}
use Rattle.olr_candidates.proofs.window.lines_within.Goals as goal

pub returns : goal.returns
returns c = covers_radius c.foot_on_segment.ensures.x c.foot_on_segment.ensures.y
    c.no_shorter_than_east.ensures c.no_shorter_than_north.ensures
    _ _ _ c.window.ensures.sound.lines.each c.window_around.ensures c.window.ensures.window
