use Rattle.std.proofs.Common.{◌≡◌, ◌+◌, ◌*◌, ◌≤◌, ◌++◌, length, take}
use Rattle.olr_keys.proofs.RanksText.{later}
use Rattle.olr_keys.proofs.ranks.push_ranks.Given as goal

abbrev pub invariant-loop-rank : goal.invariant-loop-rank
invariant-loop-rank l = record {
  text : l.text.bytes ≡ l.initial.text.bytes ++ later (take l.rank-index l.others);
  at_most : length l.text.bytes ≤ length l.initial.text.bytes + 3 * l.rank-index;
}
