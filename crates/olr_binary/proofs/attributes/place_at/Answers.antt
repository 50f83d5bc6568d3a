use Rattle.std.proofs.Common.{◌∙◌, arith}
use Rattle.olr_binary.proofs.Points.{place_of-next}
use Rattle.olr_binary.proofs.attributes.place_at.Goals as goal

pub returns-else-index-eq0 : goal.returns-else-index-eq0
returns-else-index-eq0 c = λ first before.
    c.moved.ensures ∙ place_of-next c.args.bytes.now _ _ _ (omega arith) before
