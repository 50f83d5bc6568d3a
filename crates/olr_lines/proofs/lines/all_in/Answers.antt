use Rattle.olr_lines.proofs.Meeting.{sorted_are}
use Rattle.olr_lines.proofs.lines.all_in.Goals as goal

pub returns : goal.returns
returns c =
    sorted_are c.args.map.now.lines c.args.wanted.now c.in_ok-ranks.ranks.items _
    (rw c.window.ensures at c.in_ok-ranks.ensures) c.sort_unstable.ensures.permutation
    c.sort_unstable.ensures.sorted
