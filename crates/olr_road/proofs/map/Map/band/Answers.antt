use Rattle.olr_road.proofs.Common.{w32, to_z-of_z}
use Rattle.olr_road.proofs.Windows.{band_of}
use Rattle.olr_road.proofs.map.Map.band.Goals as goal

pub returns : goal.returns
returns c = band_of _ _ _ _ c.window.ensures.sound
    (rw (to_z-of_z w32 c.args.low c.ranges.low, to_z-of_z w32 c.args.high c.ranges.high) at
    c.window.ensures.window)
