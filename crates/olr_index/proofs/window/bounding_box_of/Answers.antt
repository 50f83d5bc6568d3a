use Rattle.olr_index.proofs.Common.{w32, rules, to_z-of_z}
use Rattle.olr_index.proofs.Spans.{span_start, span_more, span_whole, greatest_is, least_is}
use Rattle.olr_index.proofs.window.bounding_box_of.Goals as goal

pub loop-point-init : goal.loop-point-init
loop-point-init c = record {
  lats = rw (to_z-of_z w32 c.index-points-0.result.lat (search rules))
      (span_start _ _ _ c.requires c.index-points-0.is);
  lons = rw (to_z-of_z w32 c.index-points-0.result.lon (search rules))
      (span_start _ _ _ c.requires c.index-points-0.is);
}

pub loop-point-preserved : goal.loop-point-preserved
loop-point-preserved c =
    let south = least_is {x = c.loop-point.bounding_box.south} {y = c.point-item.result.lat}
    (search rules) (search rules) (search rules) c.min.ensures.value in
    let north = greatest_is {x = c.loop-point.bounding_box.north} {y = c.point-item.result.lat}
    (search rules) (search rules) (search rules) c.max.ensures.value in
    let west = least_is {x = c.loop-point.bounding_box.west} {y = c.point-item.result.lon} (search rules)
    (search rules) (search rules) c.min-in-loop-point.ensures.value in
    let east = greatest_is {x = c.loop-point.bounding_box.east} {y = c.point-item.result.lon}
    (search rules) (search rules) (search rules) c.max-in-loop-point.ensures.value in
    record {
      lats = rw (south, north) (span_more _ _ _ _ c.loop-point-test.true c.point-item.is
          c.loop-point.invariant.lats);
      lons = rw (west, east) (span_more _ _ _ _ c.loop-point-test.true c.point-item.is
          c.loop-point.invariant.lons);
    }

pub returns : goal.returns
returns c = record {
  lats = span_whole _ _ _ c.loop-point-test.false c.loop-point.invariant.lats;
  lons = span_whole _ _ _ c.loop-point-test.false c.loop-point.invariant.lons;
}
