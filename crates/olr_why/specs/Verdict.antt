-- The first thing that stands between a reference and a matching. Points are counted from 0 here,
-- and from 1 in a verdict, so that the number of points up to one and the number of that point are
-- the same.
use Rattle.std.specs.Prelude.{◌≡◌, ℕ, ◌+◌, ◌<◌, ◌≤◌, length}
use Rattle.olr_why.specs.Common.{HasTooMany, Place, points_of, Reference, RoadMap, Tolerances}
use Rattle.olr_why.specs.declared.verdict.Verdict.{Verdict}
use Rattle.olr_why.specs.declared.verdict.Verdict.TheVariants.{Chain, Crowded, Leg, Match, Point}
use Rattle.olr_why.specs.Chain.{AdmitsPlaces, HasMatching, HasTuple, IsCandidatePlace, IsUncrowded}

-- the least number of which this holds
pub record IsFirst (P : ℕ → Type 0) (number : ℕ) : Type 0 where
  pub holds : P number
  pub before : (lesser : ℕ) → lesser < number → P lesser → ⊥

module _ (road : RoadMap) (tolerances : Tolerances) (reference : Reference) where
  -- a point has no candidate
  abbrev pub HasNoCandidate : ℕ → Type 0
  HasNoCandidate index = (index < length (points_of reference))
      × ((place : Place) → IsCandidatePlace road tolerances reference index place → ⊥)

  -- the leg from a point to the next one admits no pair, of all pairs of their candidates, of which
  -- there may be none
  abbrev pub AdmitsNone : ℕ → Type 0
  AdmitsNone index = (index + 1 < length (points_of reference))
      × ((from to : Place) → IsCandidatePlace road tolerances reference index from
      → IsCandidatePlace road tolerances reference (index + 1) to
      → AdmitsPlaces road tolerances reference index from to → ⊥)

  -- the first `count` points have no tuple of candidates, one of each, of which each two neighbours
  -- are admitted
  abbrev pub HasNoTuple : ℕ → Type 0
  HasNoTuple count = (count ≤ length (points_of reference))
      × (HasTuple road tolerances reference count → ⊥)

  -- no point is without candidates
  abbrev pub HaveCandidates : Type 0
  HaveCandidates = (index : ℕ) → HasNoCandidate index → ⊥

  -- no leg admits no pair
  abbrev pub HavePairs : Type 0
  HavePairs = (index : ℕ) → AdmitsNone index → ⊥

  -- The verdict: the first of these that holds. A point has more than 64 candidates; one has none;
  -- a leg admits no pair; no tuple of candidates of the first points has each two neighbours
  -- admitted. Each names the first such point, or the point from which the first such leg leads.
  -- Else there is a matching.
  abbrev pub IsVerdict : Verdict → Type 0
  IsVerdict (Crowded number) = (index : ℕ) × (number ≡ index + 1)
      × IsFirst (HasTooMany tolerances reference road.lines) index
  IsVerdict (Point number) = IsUncrowded road tolerances reference
      × ((index : ℕ) × (number ≡ index + 1) × IsFirst HasNoCandidate index)
  IsVerdict (Leg number) = IsUncrowded road tolerances reference × HaveCandidates
      × ((index : ℕ) × (number ≡ index + 1) × IsFirst AdmitsNone index)
  IsVerdict (Chain number) = IsUncrowded road tolerances reference × HaveCandidates × HavePairs
      × IsFirst HasNoTuple number
  IsVerdict Match = IsUncrowded road tolerances reference × HasMatching road tolerances reference
