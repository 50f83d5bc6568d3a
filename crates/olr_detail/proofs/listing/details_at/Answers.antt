use Rattle.std.proofs.Common.{arith}
use Rattle.std.proofs.lemmas.Option.{slice_get-get_or}
use Rattle.olr_detail.specs.CandidateDetail.{IsDetailOf}
use Rattle.olr_detail.proofs.Matchings.{listed}
use Rattle.olr_detail.proofs.Pushed.{pushed}
use Rattle.olr_detail.proofs.listing.details_at.Goals as goal

pub detail_of_candidate-requires-clause-candidate : goal.detail_of_candidate-requires-clause-candidate
detail_of_candidate-requires-clause-candidate c = listed _ _ _ c.args.index c.args.candidates.now
    c.requires.list c.loop-candidate.candidate-index _ c.loop-candidate-test.true

pub loop-candidate-preserved : goal.loop-candidate-preserved
loop-candidate-preserved c = pushed
    (λ _. IsDetailOf c.args.on.now.tolerances c.args.on.now.reference.now
    c.args.on.now.map.now.lines c.args.index)
    c.args.candidates.now c.loop-candidate.details.items _ c.detail_of_candidate.result
    c.loop-candidate.candidate-index c.loop-candidate.invariant.0
    (slice_get-get_or c.args.candidates.now c.loop-candidate.candidate-index _
    c.loop-candidate-test.true)
    c.detail_of_candidate.ensures.detail c.loop-candidate.invariant.1 c.push.new.self.items
    c.in_ok-push.ensures.items

pub returns : goal.returns
returns c = record {
  count = omega (
    arith,
    c.loop-candidate.invariant.0,
    c.loop-candidate.auto.candidate-index-end,
    c.loop-candidate-test.false,
  );
  each = λ k candidate detail at found. c.loop-candidate.invariant.1 k detail found candidate at;
}
