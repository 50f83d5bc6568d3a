use Rattle.olr_index.proofs.Common.{◌≡◌, vec_len, AreBlocksBelow}
use Rattle.olr_index.proofs.window.blocks_of.Given as goal

-- the blocks so far
abbrev pub invariant-loop-block : goal.invariant-loop-block
invariant-loop-block l = record {
  count : vec_len l.blocks ≡ l.block;
  cover : AreBlocksBelow l.size l.block l.lines l.blocks.items;
}
