use Rattle.olr_why.proofs.Common.{Candidate, ◌≡◌, ℕ, ◌+◌, List, [], length, ap, arith, slice_index_or}
use Rattle.olr_why.proofs.Ends as ends
use Rattle.olr_why.proofs.Ends.{IsJoinedToOne}
use Rattle.olr_why.proofs.Lists.{no_more, not_both, one_more}
use Rattle.olr_why.proofs.chain.next_ends.Goals as goal
use Rattle.olr_why.proofs.chain.next_ends.Goals.{then-is_joined_to_one, else-is_joined_to_one}

pub loop-index-preserved : goal.loop-index-preserved
loop-index-preserved c =
    let P : ℕ → Type 0 = IsJoinedToOne c.args.layers.now c.args.layer c.args.ends.now in
    let index : ℕ = c.loop-index.index in
    elim c.if-is_joined_to_one.branch [
      | then-is_joined_to_one w ↦ (
        rw w.next-is (omega (arith, w.push.ensures.len)),
        rw (w.next-is, w.push.ensures.items)
            (one_more P index _ c.loop-index.invariant.1
            (c.is_joined_to_one.ensures.0 w.if-is_joined_to_one.true)),
      )
      | else-is_joined_to_one w ↦ (
        rw w.next-is (omega arith),
        rw w.next-is (no_more P index _ c.loop-index.invariant.1
            (λ joined. not_both (c.is_joined_to_one.ensures.1 joined) w.if-is_joined_to_one.false)),
      )
    ]

pub returns : goal.returns
returns c =
    let all : c.loop-index.index ≡ length
    (slice_index_or c.args.layers.now.candidates (c.args.layer + 1) []) =
    omega (arith, ap (λ (l : List Candidate). length l) c.layer-index-end.ensures.layer) in
    ends.next_ends c.args.layers.now c.args.layer c.args.ends.now _ c.requires.ends
    (rw all at c.loop-index.invariant.1)
