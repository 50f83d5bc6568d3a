use Rattle.std.proofs.Common.{◌≡◌, ◌∙◌, ◌++◌, ◌<◌, true, false, map, ap, length, arith}
use Rattle.std.proofs.lemmas.List.{length-map}
use Rattle.olr_base.specs.Coordinates.{coordinates_of}
use Rattle.olr_shape.specs.Shape.{is_between}
use Rattle.olr_shape.proofs.Between.{all_between, passed, pushed}
use Rattle.olr_shape.proofs.shape.push_between.Goals as goal
use Rattle.olr_shape.proofs.shape.push_between.Goals.{then-lies_between+in_ok-push, else-lies_between}

pub loop-number-preserved : goal.loop-number-preserved
loop-number-preserved c =
    let line = c.args.line.now in
    let from = c.args.from in
    let to = c.args.to in
    let points = c.points-points.result.now in
    let same = c.points-points.ensures.points in
    let n = c.loop-number.number in
    let point = c.index-points-number.result in
    let count = length-map points coordinates_of in
    let within : n < length line.points = omega (arith, ap length same) in
    let tests = c.lies_between.ensures in
    let after = c.arc_of_position-after.ensures in
    let before = c.arc_of_position-before.ensures in
    let arc = c.arc_of_point.ensures.arc in
    elim c.if-lies_between.branch [
      | then-lies_between+in_ok-push w ↦
          let inside : is_between from to line (n, coordinates_of point) ≡ true = cc in
          rw w.shape-is (pushed line from to points same n point
          c.args.shape.now.items _ _ within c.index-points-number.is inside c.loop-number.invariant
          w.in_ok-push.ensures.items)
      | else-lies_between w ↦
          let outside : is_between from to line (n, coordinates_of point) ≡ false = cc in
          rw w.shape-is (passed line from to points same n point
          c.args.shape.now.items _ within c.index-points-number.is outside c.loop-number.invariant)
    ]

pub returns : goal.returns
returns c =
    let line = c.args.line.now in
    let points = c.points-points.result.now in
    let count = length-map points coordinates_of in
    let same = ap length c.points-points.ensures.points in
    c.loop-number.invariant
    ∙ ap (λ l. map coordinates_of c.args.shape.now.items ++ l)
    (all_between line c.args.from c.args.to c.loop-number.number (omega arith))
