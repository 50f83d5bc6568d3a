use Rattle.std.proofs.Common.{ℕ, List, Bor}
use Rattle.std.proofs.lemmas.Simd.{map-map}
use Rattle.serde_json.specs.Data.{string}
use Rattle.olr_why.proofs.json.FailedConditionsToJsonOnMap.send.Goals as goal

pub returns : goal.returns
returns g c =
    let words = map-map string (λ (word : Bor (List ℕ)). word.now) c.failed_words.result.items in
    rw (← words, c.failed_words.ensures) at c.send.ensures
