use Rattle.olr_binary.proofs.Common.{◌≡◌, ◌+◌, ◌-◌, length, refl, arith, below_more, IsPoint}
use Rattle.olr_binary.proofs.Points.{each-push}
use Rattle.olr_binary.proofs.attributes.read_points.Goals as goal

pub returns-in_default : goal.returns-in_default
returns-in_default c =
    let here = c.place_at-place.ensures c.first-place.result c.loop-index.invariant.place in (
      c.loop-index.index,
      refl,
      c.loop-index-test.true,
      record {
        first = c.first-place.result;
        place = c.first-place.ensures;
        beyond = λ inside. c.in_default.ensures.none (rw here inside);
        before = c.loop-index.invariant.passed;
      },
    )

pub loop-index-preserved : goal.loop-index-preserved
loop-index-preserved c =
    let here = c.place_at-place.ensures c.first-place.result c.loop-index.invariant.place in
    let again : c.loop-index.index + 1 - 1 ≡ c.loop-index.index = omega arith in
    let point : IsPoint c.args.bytes.now c.first-place.result c.args.count c.loop-index.index
    c.point_at.result = record {
      lon = rw (c.point_at.ensures.at, ← here) c.in-Some.ensures.found.1;
      lat = rw (c.point_at.ensures.at, ← here) c.in-Some.ensures.found.2;
      attributes = c.point_at.ensures.attributes;
    } in
    record {
      count_so_far = omega arith;
      place = rw again here;
      passed = below_more _ _ c.loop-index.invariant.passed (rw (← here) c.in-Some.ensures.found.0);
      each = rw c.push.ensures.items (each-push _ _ _ _ _
          _ c.loop-index.invariant.count_so_far c.loop-index.invariant.each point);
    }

pub returns : goal.returns
returns c =
    let all : c.loop-index.index ≡ c.args.count = omega arith in
    let len : length c.loop-index.points.items ≡ c.args.count = cc in (
      len,
      record {
        first = c.first-place.result;
        place = c.first-place.ensures;
        each = rw len c.loop-index.invariant.each;
      },
    )
