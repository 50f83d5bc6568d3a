-- The outcome of decoding a text or its bytes: a reference, or the first refusal.
use Rattle.std.specs.Prelude.{ℕ, List, Result, Ok, Err}
use Rattle.olr_binary.specs.declared.reference.Reference.{Reference}
use Rattle.olr_binary.specs.declared.refusal.Refused.{Refused}
use Rattle.olr_binary.specs.Text.{IsBase64, trimmed}
use Rattle.olr_binary.specs.Reference.{IsReferenceOf}
use Rattle.olr_binary.specs.Refusal.{Refuses, RefusesBytes}

-- the outcome of a byte list
abbrev pub IsBytesOutcome : List ℕ → Result Reference Refused → Type 0
IsBytesOutcome bytes (Ok reference) = IsReferenceOf bytes reference
IsBytesOutcome bytes (Err refused) = RefusesBytes bytes refused

-- the text, without the blanks at its ends, is the base64 of the reference's bytes
pub record IsTextOf (text : List ℕ) (reference : Reference) : Type 0 where
  pub bytes : List ℕ
  pub base64 : IsBase64 (trimmed text) bytes
  pub is_reference : IsReferenceOf bytes reference

-- the outcome of a text
abbrev pub IsOutcome : List ℕ → Result Reference Refused → Type 0
IsOutcome text (Ok reference) = IsTextOf text reference
IsOutcome text (Err refused) = Refuses (trimmed text) refused
