-- The keys that complete the empty beginning are the answers.
use Rattle.olr_keys.proofs.Common.{◌≡◌, ℕ, ◌⊎◌, List, [], Option, None, refl, arith, Penalties, answers_of, IsAfter, IsNext, IsLeastOf, KeyValue, IsKey, same_key, Completes, IsHeld}
use Rattle.olr_keys.proofs.Least.{same_least}
use Rattle.olr_keys.proofs.NextKeys.{next_listed}

completes : (p : Penalties) (key : KeyValue) → IsKey p key → Completes p None 0 [] key
completes p key is = (key.ranks, key.total, is, same_key (omega arith) refl)

matching : (p : Penalties) {key : KeyValue} → Completes p None 0 [] key → IsKey p key
matching p (rest, more, completion, same) = grind (arith, same_key)

pub next_of : (p : Penalties) (after : Option KeyValue) {ranks : List ℕ} (found : Option KeyValue)
    → ranks ≡ []
    → IsLeastOf (λ (key : KeyValue). IsHeld None key
    ⊎ (Completes p None 0 ranks key × IsAfter after key)) found
    → IsNext (answers_of p) after found
next_of p after found none is = grind (arith, next_listed, same_least, matching, completes)
