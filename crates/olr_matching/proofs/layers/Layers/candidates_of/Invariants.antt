use Rattle.olr_matching.proofs.Common.{Candidate, IsOfRank, ◌≡◌, ℕ, length, Some, slice_get}
use Rattle.olr_matching.proofs.layers.Layers.candidates_of.Given as goal

abbrev pub invariant-loop-layer : goal.invariant-loop-layer
invariant-loop-layer l = (length l.chosen.items ≡ l.layer)
    × ((layer : ℕ) (candidate : Candidate) → slice_get l.chosen.items layer ≡ Some candidate
    → (rank : ℕ) → slice_get l.ranks layer ≡ Some rank →
    IsOfRank l.self.candidates layer rank candidate)
