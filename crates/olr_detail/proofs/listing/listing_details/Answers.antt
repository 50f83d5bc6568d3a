use Rattle.std.proofs.Common.{◌≡◌, ◌<◌, ◌∙◌, ℕ, zero, suc, List, [], ◌∷◌, Some, length, refl, ap, arith, option_map, slice_get}
use Rattle.std.proofs.lemmas.List.{length-map}
use Rattle.std.proofs.lemmas.Option.{none-some, slice_get-map, slice_get_read}
use Rattle.std.specs.Prelude.{slice_index_or}
use Rattle.arrayvec.specs.ArrayVec.{ArrayVec}
use Rattle.olr_candidates.specs.Points.{lists_of}
use Rattle.olr_candidates.specs.declared.candidate.Candidate.{Candidate}
use Rattle.olr_detail.specs.Listing.{AreDetailsAt, details_of}
use Rattle.olr_detail.specs.declared.candidate_detail.CandidateDetail.{CandidateDetail}
use Rattle.olr_detail.specs.declared.listing.PointDetails.{PointDetails}
use Rattle.olr_detail.proofs.Pushed.{pushed}
use Rattle.olr_detail.proofs.listing.listing_details.Goals as goal

-- what the list of an index has
list_at : (lists : List (ArrayVec Candidate)) (index : ℕ) (list : ArrayVec Candidate)
    → index < length lists → list ≡ slice_index_or lists index list
    → slice_get (lists_of lists) index ≡ Some list.items
list_at lists index list inside is =
    slice_get-map (λ (one : ArrayVec Candidate). one.items) lists index
    ∙ ap (option_map (λ (one : ArrayVec Candidate). one.items))
    (slice_get_read lists _ index list refl inside is)

-- the details of a point are those that its list has
found_at : (points : List PointDetails) (k : ℕ) (details : List CandidateDetail)
    → slice_get (details_of points) k ≡ Some details → (point : PointDetails)
    × (slice_get points k ≡ Some point) × (point.candidates.items ≡ details)
found_at [] k details is = absurd (none-some details is)
found_at (point ∷ points) zero details is = (point, refl, cc is)
found_at (point ∷ points) (suc k) details is = found_at points k details is

pub details_at-requires-clause-list : goal.details_at-requires-clause-list
details_at-requires-clause-list c = rw c.deref.ensures.0 (c.requires.each c.loop-index.index
    c.index-lists-index.result.items
    (list_at c.args.lists.now c.loop-index.index c.index-lists-index.result c.loop-index-test.true
    c.index-lists-index.is))

pub loop-index-preserved : goal.loop-index-preserved
loop-index-preserved c = pushed
    (λ k (list : List Candidate) (point : PointDetails).
    AreDetailsAt c.args.on.now.tolerances c.args.on.now.reference.now c.args.on.now.map.now.lines k
    list point.candidates.items)
    (lists_of c.args.lists.now) c.loop-index.details.items c.index-lists-index.result.items
    (record { candidates = c.in_ok-candidates.candidates }) c.loop-index.index
    c.loop-index.invariant.0
    (list_at c.args.lists.now c.loop-index.index c.index-lists-index.result c.loop-index-test.true
    c.index-lists-index.is)
    (rw c.deref.ensures.0 at c.in_ok-candidates.ensures) c.loop-index.invariant.1
    c.push.new.self.items c.in_ok-push.ensures.items

pub returns : goal.returns
returns c =
    let lists = c.args.lists.now in
    let points = c.loop-index.details.items in
    let listed : length (lists_of lists) ≡ length lists =
    length-map lists (λ (one : ArrayVec Candidate). one.items) in
    let detailed : length (details_of points) ≡ length points =
    length-map points (λ (point : PointDetails). point.candidates.items) in
    record {
      count = omega (
        arith,
        listed,
        detailed,
        c.loop-index.invariant.0,
        c.loop-index.auto.index-end,
        c.loop-index-test.false,
      );
      each = λ k list detail at found.
          let (point, point_at, is) = found_at points k detail found in
          rw (← is) (c.loop-index.invariant.1 k point point_at list at);
    }
