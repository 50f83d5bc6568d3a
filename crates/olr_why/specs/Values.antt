-- What is known of a point and of a leg of a reference, as values.
use Rattle.std.specs.Prelude.{ℕ, List, Option}
use Rattle.olr_why.specs.Common.{NearLine}
use Rattle.olr_why.specs.declared.pair.PairLength.{PairLength}

-- a point: how many candidates it has, none for more than 64, and the lines nearest to it
pub record PointValue : Type 0 where
  pub candidates : Option ℕ
  pub nearest : List NearLine

-- A leg: its class limit, the least and the greatest length that it admits, how many pairs of
-- candidates it admits, of how many, and the pairs that tell why it admits none.
pub record LegValue : Type 0 where
  pub class : ℕ
  pub from : ℕ
  pub to : ℕ
  pub admits : ℕ
  pub of : ℕ
  pub pairs : List PairLength
