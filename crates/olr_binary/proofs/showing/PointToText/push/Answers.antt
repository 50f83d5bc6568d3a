use Rattle.olr_binary.proofs.Common.{◌≡◌, append_assoc, w32, to_z, of_z, arith, ints}
use Rattle.olr_binary.proofs.showing.PointToText.push.Goals as goal

pub returns : goal.returns
returns g c =
    let lon : to_z w32 (of_z w32 c.args.self.now.at.lon) ≡ c.args.self.now.at.lon =
    omega (
      arith,
      ints,
      c.args.self.now.at.lon_in_range.west,
      c.args.self.now.at.lon_in_range.east,
    ) in
    let lat : to_z w32 (of_z w32 c.args.self.now.at.lat) ≡ c.args.self.now.at.lat =
    omega (
      arith,
      ints,
      c.args.self.now.at.lat_in_range.south,
      c.args.self.now.at.lat_in_range.north,
    ) in
    rw (c.in_ok-push_str.ensures.bytes, c.in_ok-push_next.ensures, c.in_ok-write.ensures.bytes)
    (simp (append_assoc, lon, lat))
