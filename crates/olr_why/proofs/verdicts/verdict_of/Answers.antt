use Rattle.std.proofs.Common.{refl}
use Rattle.olr_why.proofs.OneVerdict.{uncrowded}
use Rattle.olr_why.proofs.verdicts.verdict_of.Goals as goal

pub returns-in-Some : goal.returns-in-Some
returns-in-Some c = λ road are. (
  uncrowded c.no_lists_and_too_many.ensures are,
  (c.in-Some.point, refl, c.in-Some.ensures.first road are),
)

pub returns-in-Some-first_without_pair : goal.returns-in-Some-first_without_pair
returns-in-Some-first_without_pair c = λ road are. (
  uncrowded c.no_lists_and_too_many.ensures are,
  c.in_default.ensures.first road are,
  (c.in-Some-first_without_pair.point, refl, c.in-Some-first_without_pair.ensures.first road are),
)

pub returns-in-Some-first_without_tuple : goal.returns-in-Some-first_without_tuple
returns-in-Some-first_without_tuple c = λ road are. (
  uncrowded c.no_lists_and_too_many.ensures are,
  c.in_default.ensures.first road are,
  c.in_default-first_without_pair.ensures.first road are,
  c.in-Some-first_without_tuple.ensures road are,
)

pub returns-in-None : goal.returns-in-None
returns-in-None c =
    λ road are. (uncrowded c.no_lists_and_too_many.ensures are, c.in-None.ensures road are)
