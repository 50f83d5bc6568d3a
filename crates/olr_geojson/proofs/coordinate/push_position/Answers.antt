use Rattle.std.proofs.Common.{◌≡◌, w32, to_z, of_z, arith}
use Rattle.std.proofs.lemmas.Int.{ints}
use Rattle.olr_geojson.specs.Coordinate.{position_text}
use Rattle.olr_geojson.proofs.Appended.{five}
use Rattle.olr_geojson.proofs.coordinate.push_position.Goals as goal

pub returns : goal.returns
unfolding position_text lib.Utf8.encode
returns c =
    let at = c.args.position in
    let lon : to_z w32 (of_z w32 at.lon) ≡ at.lon =
    omega (arith, ints, at.lon_in_range.west, at.lon_in_range.east) in
    let lat : to_z w32 (of_z w32 at.lat) ≡ at.lat =
    omega (arith, ints, at.lat_in_range.south, at.lat_in_range.north) in
    five _ _ _ _ _ _ _ _ _ _ _ c.in_ok-push.ensures.bytes
    (rw lon at c.in_ok-push_coordinate.ensures) c.in_ok-push-2.ensures.bytes
    (rw lat at c.in_ok-push_coordinate-2.ensures) c.in_ok-push-3.ensures.bytes
