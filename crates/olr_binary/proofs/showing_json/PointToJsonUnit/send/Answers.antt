use Rattle.olr_binary.proofs.Common.{◌≡◌, w32, to_z, of_z, arith, ints}
use Rattle.olr_binary.proofs.showing_json.PointToJsonUnit.send.Goals as goal

pub returns : goal.returns
returns g c =
    let at = c.args.self.now.at in
    let lon : to_z w32 (of_z w32 at.lon) ≡ at.lon =
    omega (arith, ints, at.lon_in_range.west, at.lon_in_range.east) in
    let lat : to_z w32 (of_z w32 at.lat) ≡ at.lat =
    omega (arith, ints, at.lat_in_range.south, at.lat_in_range.north) in
    rw (lon, lat, c.interval_of.ensures, c.lowest_of.ensures) at c.send_object.ensures
