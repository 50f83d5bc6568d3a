use Rattle.olr_candidates.proofs.Common.{Coordinates, coordinates_of, x_of, ◌≡◌, ◌*◌, pos, ◌-ℤ◌, ◌<ℤ◌, w32, to_z, of_z, arith, ints}
use Rattle.olr_candidates.proofs.WindowAround.{not_west}
use Rattle.olr_candidates.proofs.window.western_bound.Goals as goal

pub returns : goal.returns
returns c =
    let origin : Coordinates = coordinates_of c.args.query.now.plane in
    let here = c.args.query.now.point.at in
    let west = here.lon_in_range.west in
    let east = here.lon_in_range.east in
    let positive = c.reach_in_longitude.ensures.positive in
    let lon : to_z w32 (of_z w32 here.lon) ≡ here.lon = omega (arith, ints) in
    let reach : to_z w32 (of_z w32 c.reach_in_longitude.result) ≡ c.reach_in_longitude.result =
    omega (arith, ints) in
    let bound : to_z w32 (of_z w32 (here.lon -ℤ c.reach_in_longitude.result))
    ≡ here.lon -ℤ c.reach_in_longitude.result = omega (arith, ints) in
    let next : to_z w32 (of_z w32 (here.lon -ℤ c.reach_in_longitude.result -ℤ pos 1))
    ≡ here.lon -ℤ c.reach_in_longitude.result -ℤ pos 1 = omega (arith, ints) in
    let x : c.x_at.result ≡ x_of origin here.lon = simp lon at c.x_at.ensures.x in
    let next_x : c.x_at-2.result ≡ x_of origin (here.lon -ℤ c.reach_in_longitude.result -ℤ pos 1) =
    simp (lon, reach, bound, next) at c.x_at-2.ensures.x in
    let beyond : c.x_at-2.result <ℤ (c.x_at.result -ℤ pos (100 * c.args.radius)) = omega (
      arith,
      ints,
      c.if-x_at-edge.false,
      c.x_at.ensures.at_most,
      c.x_at-2.ensures.at_most,
      c.from.ensures,
    ) in
    rw (lon, reach, bound)
    (λ l range near. not_west origin l (here.lon -ℤ c.reach_in_longitude.result)
    (x_of origin here.lon -ℤ pos (100 * c.args.radius)) (rw (← x, ← next_x) beyond) near)
