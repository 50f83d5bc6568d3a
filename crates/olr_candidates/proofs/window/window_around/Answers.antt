use Rattle.olr_candidates.proofs.Common.{rules, ◌≡◌, ◌+◌, ◌*◌, pos, ◌+ℤ◌, ◌-ℤ◌, to_z, of_z, w32, FitsSigned, arith, ints, to_z-of_z}
use Rattle.olr_candidates.proofs.WindowAround.{not_north, not_south}
use Rattle.olr_candidates.proofs.window.window_around.Goals as goal

pub returns : goal.returns
returns c =
    let query = c.args.query.now in
    let radius = c.args.radius in
    let south : to_z w32 (of_z w32 c.moved.result) ≡ query.point.at.lat -ℤ pos (9 * radius + 1) =
    omega (arith, ints, c.moved.ensures.moved, c.moved.ensures.at_most) in
    let north : to_z w32 (of_z w32 c.moved-2.result) ≡ query.point.at.lat +ℤ pos (9 * radius + 1) =
    omega (arith, ints, c.moved-2.ensures.moved, c.moved-2.ensures.at_most) in
    let west_fits : FitsSigned w32 c.western_bound.result = search rules in
    let east_fits : FitsSigned w32 c.eastern_bound.result = search rules in
    record {
      south = λ place range near. rw south (not_south _ _ _ _ near);
      north = λ place range near. rw north (not_north _ _ _ _ near);
      west = λ place range near. rw (to_z-of_z w32 c.western_bound.result west_fits)
          (c.western_bound.ensures place.lon range.lon near);
      east = λ place range near. rw (to_z-of_z w32 c.eastern_bound.result east_fits)
          (c.eastern_bound.ensures place.lon range.lon near);
    }
