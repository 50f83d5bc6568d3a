use Rattle.olr_shape.proofs.Ranges.{latitude_between, longitude_between}
use Rattle.olr_shape.proofs.share.coordinates_between.Goals as goal

pub invariant_of-result : goal.invariant_of-result
invariant_of-result c = record {
  lon_in_range = longitude_between c.args.p.lon c.args.q.lon _ c.args.p.lon_in_range
      c.args.q.lon_in_range c.share_between.ensures.between;
  lat_in_range = latitude_between c.args.p.lat c.args.q.lat _ c.args.p.lat_in_range
      c.args.q.lat_in_range c.share_between-2.ensures.between;
}
