-- The parts of a matching, as values. Lengths are in decimetres.
use Rattle.std.specs.Prelude.{ℕ, List}
use Rattle.olr_matching.specs.Common.{Candidate, Piece}

-- a leg: its length, its penalty and the pieces of its route
pub record LegValue : Type 0 where
  pub length : ℕ
  pub penalty : ℕ
  pub route : List Piece

-- the candidate of each point, and the leg between each two neighbours
pub record MatchedValue : Type 0 where
  pub candidates : List Candidate
  pub legs : List LegValue
