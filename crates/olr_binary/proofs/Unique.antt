-- Bytes have one reference at most, and a text has one outcome at most.
use Rattle.olr_binary.proofs.Common.{arith, ◌≡◌, ℕ, List, Ok, Err, ap, Result, IfOk, Reference, Refused, IsOutcome, IsTextOf, IsReference, Refuses, trimmed}
use Rattle.olr_binary.proofs.Base64.{base64_is_one}
use Rattle.olr_binary.proofs.Outcomes.{refusal_is_one, not_refused}
use Rattle.olr_binary.proofs.References.{is_reference, reference_is_one, reference_refused, text_of_reference}

-- a text of a reference is refused for nothing
no_refusal : (text : List ℕ) (r : Reference) (e : Refused) → IsTextOf text r
    → Refuses (trimmed text) e → ⊥
no_refusal text r e a = grind (arith, not_refused, text_of_reference, reference_refused)

pub outcome_is_one : (text : List ℕ) (a b : Result Reference Refused) → IsOutcome text a
    → IsOutcome text b → a ≡ b
outcome_is_one text (Ok r) (Ok s) a b =
    ap Ok (reference_is_one _ r s (rw (← (base64_is_one _ _ _ a.base64 b.base64)) a.is_reference)
    b.is_reference)
outcome_is_one text (Ok r) (Err e) a b = absurd (no_refusal text r e a b)
outcome_is_one text (Err e) (Ok r) a b = absurd (no_refusal text r e b a)
outcome_is_one text (Err e) (Err f) a b = ap Err (refusal_is_one _ e f a b)

-- what holds of a reference that is an outcome
pub outcome_reference : (text : List ℕ) (a : Result Reference Refused) → IsOutcome text a
    → IfOk a IsReference
outcome_reference text (Ok r) a = is_reference _ r a.base64.each_byte a.is_reference
outcome_reference text (Err e) a = tt
