-- What is told of a place by a confidence, as a value. Probabilities are in millionths.
use Rattle.std.specs.Prelude.{ℕ, List}
use Rattle.olr_confidence.specs.declared.reason.Reason.{Reason}

-- how probable it is, and why no more
pub record ToldPlaceValue : Type 0 where
  pub probability : ℕ
  pub reasons : List Reason
