use Rattle.std.proofs.Common.{refl}
use Rattle.olr_words.proofs.words.Given.what.Goals as goal

pub returns-in_ok-limits-in-Places-clause-accepted : goal.returns-in_ok-limits-in-Places-clause-accepted
returns-in_ok-limits-in-Places-clause-accepted c = rw c.in-Places.is (
  c.in_ok-limits-in-Places.field-0,
  c.in_ok-limits-in-Places.ensures.accepted,
  refl,
)
