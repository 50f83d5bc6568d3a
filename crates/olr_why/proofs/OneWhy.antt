-- The map, the reference, the tolerances and the count of nearest lines determine the points and
-- all reasons.
use Rattle.olr_why.proofs.Common.{PointReason, Reference, RoadMap, Tolerances, OneLayers, ◌≡◌, ℕ, List, length, sym, ◌∙◌, ap, Option, NoListOfPointAndTooMany, OneListOfNearest, OneListOfPoint, ArePointReasons, IsCountOf, by_index, OneList, MatchingHasKey, OneVerdict, OneWhy}
use Rattle.olr_why.proofs.Lists.{one_option}
use Rattle.olr_why.proofs.OneLegs.{one_legs}
use Rattle.olr_why.proofs.OneRemedies.{one_remedies}

-- ---- points

module _ (one_list : OneListOfPoint) (not_both : NoListOfPointAndTooMany)
    (one_nearest : OneListOfNearest) (road : RoadMap) (tolerances : Tolerances)
    (reference : Reference) where
  one_count : (index : ℕ) (a b : Option ℕ) → IsCountOf road tolerances reference index a
      → IsCountOf road tolerances reference index b → a ≡ b
  one_count index a b = one_option a b (λ number is many. not_both _ _ _ _ is.0 is.1 many) λ x y is
      also.
      let same = one_list _ _ _ _ is.0 also.0 is.1.0 also.1.0 in sym is.2 ∙ ap length same ∙ also.2

  pub one_points : {nearest : ℕ} {a b : List PointReason}
      → ArePointReasons road tolerances reference nearest a
      → ArePointReasons road tolerances reference nearest b → a ≡ b
  one_points one other = by_index _ _ (one.count ∙ sym other.count) λ index x y x_is y_is.
      let here = one.each index x x_is in
      let there = other.each index y y_is in
      let count = one_count index _ _ here.candidates there.candidates in
      let near = one_nearest _ _ _ _ _ _ _ here.near there.near in
      λ i. record { candidates = count i; nearest = near i }

-- ---- all of it

-- the laws on which this rests
pub record Laws : Type 0 where
  pub one_verdict : OneVerdict
  pub matching_has_key : MatchingHasKey
  pub one_list_of_point : OneListOfPoint
  pub no_list_and_too_many : NoListOfPointAndTooMany
  pub one_list_of_nearest : OneListOfNearest
  pub one_list : OneList
  pub one_layers : OneLayers

pub one_why : Laws → OneWhy
one_why laws road tolerances reference nearest a b one other =
    let verdict = laws.one_verdict _ _ _ a.verdict b.verdict one.verdict other.verdict in
    let points = one_points laws.one_list_of_point laws.no_list_and_too_many
    laws.one_list_of_nearest road tolerances reference one.points other.points in
    let legs = one_legs laws.one_layers road tolerances reference b.verdict a.legs b.legs
    (rw verdict at one.legs) other.legs in
    let remedies =
    one_remedies laws.one_layers laws.one_list laws.matching_has_key reference road tolerances
    b.verdict a.remedies b.remedies (rw verdict at one.remedies) other.remedies in
    λ i. record { points = points i; legs = legs i; verdict = verdict i; remedies = remedies i }
