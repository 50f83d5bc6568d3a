-- The keys that a finder lists are those of matchings.
use Rattle.std.specs.Prelude.{List, Contains}
use Rattle.std.proofs.lemmas.List.Elements.{All-contains}
use Rattle.olr_keys.specs.Answers.{AreAnswers}
use Rattle.olr_keys.specs.Key.{KeyValue}
use Rattle.olr_keys.specs.Matching.{IsKey}
use Rattle.olr_keys.specs.Table.{Penalties}

pub key_of_answers : (penalties : Penalties) (answers : List KeyValue) (key : KeyValue) → AreAnswers penalties answers → Contains answers key → IsKey penalties key
key_of_answers penalties answers key are has = All-contains (IsKey penalties) answers key are.only has
