-- What holds of the parts of every matching: its legs are those between the points of the
-- reference.
use Rattle.olr_report.proofs.Common.{Leg, Matched, Reference, RoadMap, arith, All, All-weaker, IsSoundLeg, IsSoundMatched, IsPieceOn, IsForwards, AreLegsOf, IsMeasured}

measured : (road : RoadMap) (leg : Leg) → IsSoundLeg road leg → IsMeasured leg
measured road leg is = record {
  length_is = is.length_is;
  at_least = is.long;
  below = let short = is.short in omega arith;
}

is_forwards : (road : RoadMap) (leg : Leg) → IsSoundLeg road leg → All IsForwards leg.route
is_forwards road leg is = All-weaker (IsPieceOn road) IsForwards (λ piece on. on.forwards) leg.route
    is.pieces

pub legs_of : (road : RoadMap) (reference : Reference) (matched : Matched)
    → IsSoundMatched road reference matched → AreLegsOf reference matched.legs
legs_of road reference matched sound = record {
  count = sound.legs;
  measured = All-weaker (IsSoundLeg road) IsMeasured (measured road) matched.legs sound.each;
  forwards = All-weaker (IsSoundLeg road) (λ leg. All IsForwards leg.route)
      (is_forwards road) matched.legs sound.each;
}
