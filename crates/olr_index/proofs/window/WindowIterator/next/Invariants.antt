use Rattle.olr_index.proofs.Common.{◌≡◌, ◌++◌, length, ranks_in, AreBlocks}
use Rattle.olr_index.proofs.window.WindowIterator.next.Given as goal

-- only lines that don't meet the window were passed over
abbrev pub invariant-loop-rank : goal.invariant-loop-rank
invariant-loop-rank l = record {
  covered : AreBlocks 64 l.self-inside.next_lines.now l.self-inside.next_blocks.now;
  left : ranks_in l.self-inside.bounds l.self-inside.at_hand.now
      ++ ranks_in l.self-inside.bounds l.self-inside.next_lines.now ≡ l.fn.self;
}

abbrev pub decreases-loop-rank : goal.decreases-loop-rank
decreases-loop-rank l = length l.self-inside.next_blocks.now
