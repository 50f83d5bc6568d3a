use Rattle.std.proofs.Common.{◌≡◌, ℕ, List, Some, length, slice_get}
use Rattle.olr_candidates.specs.Points.{lists_of}
use Rattle.olr_candidates.specs.declared.candidate.Candidate.{Candidate}
use Rattle.olr_detail.specs.Listing.{AreDetailsAt}
use Rattle.olr_detail.specs.declared.listing.PointDetails.{PointDetails}
use Rattle.olr_detail.proofs.listing.listing_details.Given as goal

abbrev pub invariant-loop-index : goal.invariant-loop-index
invariant-loop-index l = (length l.details.items ≡ l.index)
    × ((k : ℕ) (point : PointDetails) → slice_get l.details.items k ≡ Some point
    → (list : List Candidate) → slice_get (lists_of l.lists) k ≡ Some list
    → AreDetailsAt l.on.tolerances l.on.reference.now l.on.map.now.lines k list
    point.candidates.items)
