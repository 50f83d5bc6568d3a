use Rattle.olr_index.proofs.ByRank.{moved_by_rank, moved_gives_back}
use Rattle.olr_index.proofs.window.ByBoundingBox.new.Goals as goal

pub invariant_of-result : goal.invariant_of-result
invariant_of-result c =
    let moved = rw c.requires at c.sort_unstable_by_key.ensures.permutation in (
      rw (moved_gives_back _ _ moved) (moved_by_rank _ _ moved),
      rw c.deref.ensures.value at c.in_ok-blocks.ensures,
      rw c.deref-2.ensures.value at c.in_ok-groups.ensures,
    )

pub returns : goal.returns
returns c =
    let moved = rw c.requires at c.sort_unstable_by_key.ensures.permutation in
    moved_gives_back _ _ moved
