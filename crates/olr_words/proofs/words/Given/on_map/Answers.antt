use Rattle.std.proofs.Common.{refl}
use Rattle.olr_words.proofs.words.Given.on_map.Goals as goal

pub returns-in-Ok-clause-accepted : goal.returns-in-Ok-clause-accepted
returns-in-Ok-clause-accepted c = record {
  question = c.in-Ok.question;
  is = c.in-Ok.ensures.accepted;
  one_of_both = c.in_ok-pages.ensures.accepted.1;
  asks = rw (c.request.ensures, c.in_ok-pages.ensures.accepted.0) refl;
}
