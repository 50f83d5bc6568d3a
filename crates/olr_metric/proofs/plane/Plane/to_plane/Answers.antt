use Rattle.std.proofs.Common.{rules, ◌≡◌, ◌≤◌, ◌-ℤ◌, to_z, of_z, w64}
use Rattle.olr_metric.proofs.Planes.{scale_at_most, east_near}
use Rattle.olr_metric.proofs.plane.Plane.to_plane.Goals as goal

pub centimetres_of-requires-clause-in_plane : goal.centimetres_of-requires-clause-in_plane
centimetres_of-requires-clause-in_plane c =
    let same : to_z w64 (of_z w64 c.apart-east.result)
    ≡ c.args.position.lon -ℤ c.self.inside.origin.lon = search rules in
    let at_most : c.self.inside.scale ≤ 10000 =
    rw c.self.invariant (scale_at_most c.self.inside.origin.lat) in
    rw same (east_near _ _ _ c.args.position.lon_in_range c.self.inside.origin.lon_in_range at_most)
