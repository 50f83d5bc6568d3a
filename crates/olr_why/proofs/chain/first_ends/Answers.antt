use Rattle.olr_why.proofs.Common.{Candidate, ◌≡◌, List, [], length, ap, arith, ⊤, slice_index_or}
use Rattle.olr_why.proofs.Ends as ends
use Rattle.olr_why.proofs.Lists.{one_more}
use Rattle.olr_why.proofs.chain.first_ends.Goals as goal

pub loop-index-preserved : goal.loop-index-preserved
loop-index-preserved c = (
  omega (arith, c.push.ensures.len),
  rw c.push.ensures.items (one_more (λ _. ⊤) c.loop-index.index _ c.loop-index.invariant.1 tt),
)

pub returns : goal.returns
returns c =
    let all : c.loop-index.index ≡ length (slice_index_or c.args.layers.now.candidates 0 []) =
    omega (arith, ap (λ (l : List Candidate). length l) c.layer-index-end.ensures.layer) in
    ends.first_ends c.args.layers.now _ (rw all at c.loop-index.invariant.1)
