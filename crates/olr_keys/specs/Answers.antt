-- The answers: the keys of all matchings of a table, in order.
use Rattle.std.specs.Prelude.{List, All, AllPairs, Contains}
use Rattle.olr_keys.specs.Table.{Penalties}
use Rattle.olr_keys.specs.Key.{KeyValue, IsBefore}
use Rattle.olr_keys.specs.Matching.{IsKey}

-- exactly the keys of all matchings, strictly rising
pub record AreAnswers (penalties : Penalties) (answers : List KeyValue) : Type 0 where
  pub only : All (IsKey penalties) answers
  pub each : (key : KeyValue) → IsKey penalties key → Contains answers key
  pub rise : AllPairs IsBefore answers
