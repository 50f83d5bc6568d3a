use Rattle.std.proofs.Common.{append_assoc}
use Rattle.olr_binary.proofs.showing.push_point_along.Goals as goal

pub returns : goal.returns
returns c = rw (
  c.in_ok-write-3.ensures.bytes,
  c.in_ok-write-2.ensures.bytes,
  c.in_ok-push_texts.ensures,
  c.in_ok-write.ensures.bytes,
) (simp append_assoc)
