use Rattle.olr_road.proofs.Common.{rules, w32, to_z-of_z}
use Rattle.olr_road.proofs.Windows.{window_of, no_latitude, no_longitude, in_order, out_of_order}
use Rattle.olr_road.proofs.map.Map.window.Goals as goal

pub returns-clause-window : goal.returns-clause-window
returns-clause-window c =
    let window = c.args.window.now in
    rw (← c.self.view_is) (window_of _ _ _ _ _
    (in_order _ _ (rw (
      to_z-of_z w32 window.south (search rules),
      to_z-of_z w32 window.north (search rules),
    ) at c.if-window.false))
    (in_order _ _ (rw (
      to_z-of_z w32 window.west (search rules),
      to_z-of_z w32 window.east (search rules),
    ) at c.if-window-2.false)) c.self.invariant.placed c.window.ensures)

pub returns-then-window-clause-window : goal.returns-then-window-clause-window
returns-then-window-clause-window c =
    let window = c.args.window.now in
    rw c.nothing.ensures (no_latitude
    (out_of_order (rw (
      to_z-of_z w32 window.south (search rules),
      to_z-of_z w32 window.north (search rules),
    ) at c.if-window.true)))

pub returns-then-window-2-clause-window : goal.returns-then-window-2-clause-window
returns-then-window-2-clause-window c =
    let window = c.args.window.now in
    rw c.nothing-then-window-2.ensures
    (no_longitude (out_of_order (rw (
      to_z-of_z w32 window.west (search rules),
      to_z-of_z w32 window.east (search rules),
    ) at c.if-window-2.true)))
