-- Laws on the layers of a reference. Each is the contract of a public function that does nothing at
-- run time; its body only names the laws on which it rests.
use Rattle.std.specs.Prelude.{◌≡◌, ℕ, ◌+◌, Option, MatchOption, [], option_map, slice_get, slice_index_or}
use Rattle.olr_matching.specs.Common.{Candidate, Next, Place, RoadMap, Tolerances}
use Rattle.olr_keys.specs.Table.{leg_at, penalty_at}
use Rattle.olr_matching.specs.Layers.{AreLayersOn, IsCandidateOf, LayersValue, LeadsOn}
use Rattle.olr_matching.specs.Leg.{IsAdmitted, leg_penalty}

-- a reference and tolerances have one value of layers on a map at most
abbrev pub OneLayers : Type 0
OneLayers = (road : RoadMap) (a b : LayersValue) → AreLayersOn road a → AreLayersOn road b
    → a.reference ≡ b.reference → a.tolerances ≡ b.tolerances → a ≡ b

-- The table has the penalty of each candidate at its rank, and no other. Layers and indices count
-- from 0, ranks from 1.
abbrev pub PenaltiesAreOfCandidates : Type 0
PenaltiesAreOfCandidates = (road : RoadMap) (layers : LayersValue) (layer index : ℕ)
    → AreLayersOn road layers
    → penalty_at layers.penalties layer (index + 1)
    ≡ option_map (λ (candidate : Candidate). candidate.penalty)
    (slice_get (slice_index_or layers.candidates layer []) index)

-- the penalty of the length with which a leg admits two places, or none where it doesn't admit them
abbrev pub IsAdmittedPenalty : RoadMap → Tolerances → Next → Place → Place → Option ℕ → Type 0
IsAdmittedPenalty road tolerances next from to answer = MatchOption answer
    ((length : ℕ) → IsAdmitted road tolerances next from to length → ⊥)
    (λ penalty. (length : ℕ) × IsAdmitted road tolerances next from to length
    × (penalty ≡ leg_penalty next length))

-- The table has a penalty for the leg between two candidates exactly where the leg admits them, and
-- it is that of their least length.
abbrev pub LegsAreAdmitted : Type 0
LegsAreAdmitted = (road : RoadMap) (layers : LayersValue) (layer : ℕ) (next : Next)
    (first second : ℕ) (from to : Candidate) → AreLayersOn road layers
    → LeadsOn layers.reference layer next → IsCandidateOf layers.candidates layer first from
    → IsCandidateOf layers.candidates (layer + 1) second to
    → IsAdmittedPenalty road layers.tolerances next from.place to.place
    (leg_at layers.penalties (layer + 1) (first + 1) (second + 1))
