-- The layers of a reference on a map: the candidates of each point, and the table of their
-- penalties and of the legs between them. Layers are counted from 0, the ranks of candidates from
-- 1.
use Rattle.std.specs.Prelude.{◌≡◌, ℕ, ◌+◌, ◌*◌, List, [], length, map, Option, Some, None, option_map, slice_get, slice_index_or}
use Rattle.std.specs.Global.{Vec}
use Rattle.olr_matching.specs.Common.{Candidate, Next, Reference, RoadMap, Tolerances}
use Rattle.olr_binary.specs.declared.point.Point.{Point}
use Rattle.olr_binary.specs.Reference.{IsReference, points_of}
use Rattle.olr_candidates.specs.Points.{AreLists}
use Rattle.olr_keys.specs.Table.{Penalties, IsTable}
use Rattle.olr_matching.specs.Leg.{IsAdmittedLength, leg_penalty}

-- the candidate of a layer that has this index, counted from 0
abbrev pub IsCandidateOf : List (List Candidate) → ℕ → ℕ → Candidate → Type 0
IsCandidateOf candidates layer index candidate =
    slice_get (slice_index_or candidates layer []) index ≡ Some candidate

-- this point of a reference has a next one, and these attributes of the path to it
pub record LeadsOn (reference : Reference) (layer : ℕ) (next : Next) : Type 0 where
  pub point : Point
  pub point_is : slice_get (points_of reference) layer ≡ Some point
  pub next_is : point.next ≡ Some next

-- the penalties of candidates
abbrev pub penalties_of : List Candidate → List ℕ
penalties_of candidates = map (λ (candidate : Candidate). candidate.penalty) candidates

-- A reference and tolerances; the candidates of each point; for each leg the length of each pair of
-- candidates, by the rank of the first and then by that of the second, none where the leg doesn't
-- admit the pair; and the penalties of candidates and legs.
pub record LayersValue : Type 0 where
  pub reference : Reference
  pub tolerances : Tolerances
  pub candidates : List (List Candidate)
  pub lengths : List (List (Option ℕ))
  pub penalties : Penalties

-- the lengths of these vectors
abbrev pub lengths_of : List (Vec (Option ℕ)) → List (List (Option ℕ))
lengths_of lengths = map (λ (leg : Vec (Option ℕ)). leg.items) lengths

-- the length of a leg between two candidates, by the layer of the first one and their indices from
-- 0
abbrev pub length_at : LayersValue → ℕ → ℕ → ℕ → Option ℕ
length_at layers layer first second =
    slice_index_or (slice_index_or layers.lengths layer [])
    (first * length (slice_index_or layers.candidates (layer + 1) []) + second) None

-- the penalties of the lengths of a leg
abbrev pub leg_penalties : Next → List (Option ℕ) → List (Option ℕ)
leg_penalties next lengths = map (λ (length : Option ℕ). option_map (leg_penalty next) length)
    lengths

-- Each two candidates of neighbouring points have the length with which their leg admits them, or
-- none where it doesn't.
abbrev pub AreLengths : RoadMap → LayersValue → Type 0
AreLengths road layers = (layer : ℕ) (next : Next) (first second : ℕ) (from to : Candidate)
    → LeadsOn layers.reference layer next
    → IsCandidateOf layers.candidates layer first from
    → IsCandidateOf layers.candidates (layer + 1) second to
    → IsAdmittedLength road layers.tolerances next from.place to.place
    (length_at layers layer first second)

-- The table has the penalties of these lengths.
abbrev pub HavePenalties : LayersValue → Type 0
HavePenalties layers = (layer : ℕ) (next : Next) → LeadsOn layers.reference layer next
    → slice_index_or layers.penalties.legs layer []
    ≡ leg_penalties next (slice_index_or layers.lengths layer [])

-- The layers are those of their reference and tolerances on this map: they have exactly the
-- candidates of each point, in order, with their penalties; and for each leg exactly the pairs that
-- it admits, with their lengths and penalties. There is one list of lengths for each leg, and by
-- the table's conditions it has one place for each pair.
pub record AreLayersOn (road : RoadMap) (layers : LayersValue) : Type 0 where
  pub reference : IsReference layers.reference
  pub lists : AreLists layers.tolerances layers.reference road.lines layers.candidates
  pub table : IsTable layers.penalties
  pub penalties : layers.penalties.candidates ≡ map penalties_of layers.candidates
  pub between : length layers.lengths + 1 ≡ length layers.candidates
  pub lengths : AreLengths road layers
  pub legs : HavePenalties layers
