use Rattle.std.proofs.Common.{arith}
use Rattle.std.proofs.lemmas.Option.{slice_get-get_or, slice_get_within}
use Rattle.std.specs.Prelude.{slice_index_or}
use Rattle.olr_binary.specs.Reference.{points_of}
use Rattle.olr_candidates.specs.declared.candidate.Candidate.{Candidate}
use Rattle.olr_detail.specs.CandidateDetail.{IsDetailOf}
use Rattle.olr_detail.proofs.Pushed.{pushed}
use Rattle.olr_detail.proofs.matching_detail.candidate_details.Goals as goal

-- a candidate that is none
none_of : Candidate
none_of = record { place = record { line = 0; at = 0 }; penalty = 0 }

pub detail_of_candidate-requires-clause-index : goal.detail_of_candidate-requires-clause-index
detail_of_candidate-requires-clause-index c =
    let of_point = c.requires c.loop-index.index
    (slice_index_or c.args.candidates.now c.loop-index.index none_of)
    (slice_get-get_or c.args.candidates.now c.loop-index.index none_of c.loop-index-test.true) in
    slice_get_within (points_of c.args.on.now.reference.now) c.loop-index.index of_point.point
    of_point.point_is

pub detail_of_candidate-requires-clause-candidate : goal.detail_of_candidate-requires-clause-candidate
detail_of_candidate-requires-clause-candidate c = c.requires c.loop-index.index _
    (slice_get-get_or c.args.candidates.now c.loop-index.index _ c.loop-index-test.true)

pub loop-index-preserved : goal.loop-index-preserved
loop-index-preserved c = pushed
    (IsDetailOf c.args.on.now.tolerances c.args.on.now.reference.now c.args.on.now.map.now.lines)
    c.args.candidates.now c.loop-index.details.items _ c.detail_of_candidate.result
    c.loop-index.index c.loop-index.invariant.0
    (slice_get-get_or c.args.candidates.now c.loop-index.index _ c.loop-index-test.true)
    c.detail_of_candidate.ensures.detail c.loop-index.invariant.1 c.push.new.self.items
    c.in_ok-push.ensures.items

pub returns : goal.returns
returns c = record {
  count = omega (arith, c.loop-index.invariant.0, c.loop-index.auto.index-end, c.loop-index-test.false);
  each = λ k candidate detail at found. c.loop-index.invariant.1 k detail found candidate at;
}
