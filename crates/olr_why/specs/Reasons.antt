-- Why a reference has no matching on a map, or that it has one: for each point how many candidates
-- it has and which lines are nearest to it, for each leg what it admits, the first thing that
-- stands in the way, and what would help. Points are counted from 0 here.
use Rattle.std.specs.Prelude.{◌≡◌, ℕ, ◌<◌, List, [], All, length, Option, Some, MatchOption, slice_get}
use Rattle.olr_why.specs.Common.{AreLayersOn, Candidate, LayersValue, NearLine, points_of, Reference, RoadMap, Tolerances}
use Rattle.olr_candidates.specs.Near.{AreNearestOf}
use Rattle.olr_candidates.specs.Points.{HasTooMany, IsListOf}
use Rattle.olr_why.specs.Legs.{AreLegReasons}
use Rattle.olr_why.specs.Remedies.{AreRemedies}
use Rattle.olr_why.specs.Verdict.{IsVerdict}
use Rattle.olr_why.specs.declared.leg.LegReason.{LegReason}
use Rattle.olr_why.specs.declared.point.PointReason.{PointReason}
use Rattle.olr_why.specs.declared.remedy.Remedy.{Remedy}
use Rattle.olr_why.specs.declared.verdict.Verdict.{Verdict}
use Rattle.olr_why.specs.declared.verdict.Verdict.TheVariants.{Chain, Crowded, Leg, Match, Point}
use Rattle.olr_why.specs.declared.why.Why.{Why}

-- the reasons as a value: the points, the legs, the first thing that stands in the way, and what
-- would help
pub record WhyValue : Type 0 where
  pub points : List PointReason
  pub legs : List LegReason
  pub verdict : Verdict
  pub remedies : List Remedy

-- the reasons that a call returned
abbrev pub why_value : Why → WhyValue
why_value why = record {
  points = why.points.items;
  legs = why.legs.items;
  verdict = why.verdict;
  remedies = why.remedies.items;
}

module _ (road : RoadMap) (tolerances : Tolerances) (reference : Reference) where
  -- how many candidates a point has, none where they are more than 64
  abbrev pub IsCountOf : ℕ → Option ℕ → Type 0
  IsCountOf index count = MatchOption count (HasTooMany tolerances reference road.lines index)
      (λ number. (list : List Candidate) × IsListOf tolerances reference road.lines index list
      × (length list ≡ number))

  -- a point: how many candidates it has, and the lines nearest to it, so many at most
  pub record IsPointReason (nearest index : ℕ) (point : PointReason) : Type 0 where
    pub candidates : IsCountOf index point.candidates
    pub near : AreNearestOf tolerances reference road.lines index nearest point.nearest

  -- all points
  pub record ArePointReasons (nearest : ℕ) (points : List PointReason) : Type 0 where
    pub count : length points ≡ length (points_of reference)
    pub each : (index : ℕ) (point : PointReason) → slice_get points index ≡ Some point
        → IsPointReason nearest index point

  -- these are the layers of the reference
  pub record AreLayersOf (layers : LayersValue) : Type 0 where
    pub on : AreLayersOn road layers
    pub reference_is : layers.reference ≡ reference
    pub tolerances_is : layers.tolerances ≡ tolerances

  -- the legs, by the layers of the reference
  pub record AreLegs (legs : List LegReason) : Type 0 where
    pub layers : LayersValue
    pub layers_are : AreLayersOf layers
    pub are : AreLegReasons road layers legs

  -- the legs by the verdict: none where a point has too many candidates
  abbrev pub AreLegsFor : Verdict → List LegReason → Type 0
  AreLegsFor (Crowded number) legs = legs ≡ []
  AreLegsFor (Point number) legs = AreLegs legs
  AreLegsFor (Leg number) legs = AreLegs legs
  AreLegsFor (Chain number) legs = AreLegs legs
  AreLegsFor Match legs = AreLegs legs

  -- all of it
  pub record IsWhy (nearest : ℕ) (why : WhyValue) : Type 0 where
    pub points : ArePointReasons nearest why.points
    pub verdict : IsVerdict road tolerances reference why.verdict
    pub legs : AreLegsFor why.verdict why.legs
    pub remedies : AreRemedies road tolerances reference why.verdict why.remedies

-- the lines near these points are lines of the map
abbrev pub AreOnMap : RoadMap → List PointReason → Type 0
AreOnMap road points =
    All (λ (point : PointReason). All (λ (near : NearLine). near.line < length road.lines)
    point.nearest) points
