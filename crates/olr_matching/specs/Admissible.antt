-- The matchings of a reference on a map, by the candidates of its points and the legs between them,
-- without a table. (A decoder of the white paper takes one of these.) Points are counted from 0,
-- ranks from 1.
use Rattle.std.specs.Prelude.{◌≡◌, ℕ, ◌+◌, ◌-◌, ◌≤◌, ◌↔◌, List, [], ◌∷◌, length, Some, slice_get}
use Rattle.std.specs.List.{sum_by}
use Rattle.olr_matching.specs.Common.{Candidate, Next, points_of, Reference, RoadMap, Tolerances}
use Rattle.olr_candidates.specs.Points.{AreCandidatesOf}
use Rattle.olr_keys.specs.Key.{KeyValue}
use Rattle.olr_keys.specs.Matching.{IsKey}
use Rattle.olr_matching.specs.Layers.{AreLayersOn, LayersValue, LeadsOn}
use Rattle.olr_matching.specs.Leg.{IsAdmitted, leg_penalty}
use Rattle.olr_matching.specs.Matched.{IsMatchedBy}
use Rattle.olr_matching.specs.declared.matched.Leg.{Leg}
use Rattle.olr_matching.specs.declared.matched.Matched.{Matched}

module _ (road : RoadMap) (tolerances : Tolerances) (reference : Reference) where
  -- a point of the reference has this candidate, and the candidate has this rank
  pub record HasCandidate (index rank : ℕ) (candidate : Candidate) : Type 0 where
    pub candidates : List Candidate
    pub all : AreCandidatesOf tolerances reference road.lines index candidates
    pub at_least : 1 ≤ rank
    pub is : slice_get candidates (rank - 1) ≡ Some candidate

  -- the leg from a point admits a candidate of the point and one of the next point, and this is the
  -- penalty of their least length
  pub record Admits (index : ℕ) (from to : Candidate) (penalty : ℕ) : Type 0 where
    pub next : Next
    pub leads_on : LeadsOn reference index next
    pub length : ℕ
    pub admitted : IsAdmitted road tolerances next from.place to.place length
    pub penalty_is : penalty ≡ leg_penalty next length

  -- The rest of a matching, after its candidate of a point: a candidate of each further point, each
  -- of which is admitted with the one before it. It is given by the ranks of these candidates; its
  -- total is the sum of their penalties and of those of the legs to them.
  abbrev pub IsRestBehind : ℕ → Candidate → List ℕ → ℕ → Type 0
  IsRestBehind index from [] total = (index + 1 ≡ length (points_of reference)) × (total ≡ 0)
  IsRestBehind index from (rank ∷ ranks) total = (to : Candidate) × (leg : ℕ) × (rest : ℕ)
      × HasCandidate (index + 1) rank to × Admits index from to leg
      × IsRestBehind (index + 1) to ranks rest × (total ≡ leg + to.penalty + rest)

  -- A matching: one candidate of each point, each two neighbours admitted by their leg. It is given
  -- by the ranks of its candidates; its total is the sum of the penalties of its candidates and
  -- legs.
  abbrev pub IsMatching : List ℕ → ℕ → Type 0
  IsMatching [] total = ⊥
  IsMatching (rank ∷ ranks) total = (first : Candidate) × (rest : ℕ)
      × HasCandidate 0 rank first × IsRestBehind 0 first ranks rest × (total ≡ first.penalty + rest)

-- the keys of the table of layers are exactly the totals and ranks of the matchings of their
-- reference
abbrev pub KeysAreOfMatchings : Type 0
KeysAreOfMatchings = (road : RoadMap) (layers : LayersValue) (key : KeyValue)
    → AreLayersOn road layers
    → IsKey layers.penalties key ↔ IsMatching road layers.tolerances layers.reference key.ranks
    key.total

-- the total of a key is the sum of the penalties of its parts: of its candidates and of the legs
-- between them
abbrev pub TotalsAreOfParts : Type 0
TotalsAreOfParts = (road : RoadMap) (layers : LayersValue) (key : KeyValue) (matched : Matched)
    → AreLayersOn road layers
    → IsKey layers.penalties key → IsMatchedBy road layers key matched
    → key.total ≡ sum_by (λ (candidate : Candidate). candidate.penalty) matched.candidates
    + sum_by (λ (leg : Leg). leg.penalty) matched.legs
