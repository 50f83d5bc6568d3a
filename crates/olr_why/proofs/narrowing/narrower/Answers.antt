use Rattle.std.proofs.Common.{refl}
use Rattle.olr_why.proofs.Halving as halving
use Rattle.olr_why.proofs.narrowing.narrower.Goals as goal

pub returns : goal.returns
returns c = (
  c.in-Some.value,
  refl,
  halving.greatest_uncrowded c.in_ok-matching.matching (rw c.in-Some.is at c.in_ok-value.ensures)
      c.in_ok-matching.ensures,
)
