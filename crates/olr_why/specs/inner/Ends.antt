-- Where tuples of candidates of neighbouring points end, by the layers of a reference. Each leg of
-- a tuple admits the two candidates that it joins. Layers and the candidates of a layer are counted
-- from 0.
use Rattle.std.specs.Prelude.{ℕ, zero, suc, ◌<◌, ◌↔◌, List, [], Contains, IsSome, length, slice_index_or}
use Rattle.olr_matching.specs.Layers.{LayersValue, length_at}

-- the leg from a layer admits these candidates: it has a length between them
abbrev pub IsJoined : LayersValue → ℕ → ℕ → ℕ → Type 0
IsJoined layers layer first second = IsSome (length_at layers layer first second)

-- A tuple of one candidate of each layer up to this one ends at this candidate.
abbrev pub IsEnd : LayersValue → ℕ → ℕ → Type 0
IsEnd layers zero last = last < length (slice_index_or layers.candidates 0 [])
IsEnd layers (suc layer) last = (last < length (slice_index_or layers.candidates (suc layer) []))
    × ((before : ℕ) × IsEnd layers layer before × IsJoined layers layer before last)

-- these are exactly the candidates of a layer at which such a tuple ends
abbrev pub AreEnds : LayersValue → ℕ → List ℕ → Type 0
AreEnds layers layer ends = (last : ℕ) → Contains ends last ↔ IsEnd layers layer last
