use Rattle.olr_index.proofs.Permuted.{sorted_answer}
use Rattle.olr_index.proofs.repeats.all_differ.Goals as goal

pub returns : goal.returns
returns c = sorted_answer _ _
    (rw (← c.in_ok-sorted.ensures.items) c.sort_unstable.ensures.permutation)
    c.sort_unstable.ensures.sorted (rw (← c.deref.ensures.value) c.rises.ensures)
