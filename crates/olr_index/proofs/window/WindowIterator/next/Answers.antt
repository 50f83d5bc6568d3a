use Rattle.olr_index.proofs.Blocks.{blocks_after, entered, passed}
use Rattle.olr_index.proofs.window.WindowIterator.next.Goals.{then-meets, else-meets}
use Rattle.olr_index.proofs.window.WindowIterator.next.Goals as goal

pub loop-rank-preserved : goal.loop-rank-preserved
loop-rank-preserved c =
    let none = c.in_default.ensures in
    let are = rw c.in_ok-block.ensures.cases.0 at c.loop-rank.invariant.covered in
    record {
      covered = rw c.split_at.ensures.back (blocks_after _ _ are c.min.ensures);
      left = elim c.if-meets.branch [
        | then-meets w ↦ rw w.self-is (entered _ _ _ _
            c.split_at.ensures.front c.split_at.ensures.back none c.loop-rank.invariant.left)
        | else-meets w ↦ rw w.self-is (passed _ _ _ _ _
            are c.min.ensures c.split_at.ensures.back (cc) none c.loop-rank.invariant.left)
      ];
    }
