-- What the texts of a request itself are, before any file is read: a reference and a cursor.
use Rattle.std.specs.Prelude.{◌≡◌, ℕ, ◌⊎◌, List, Option, None, Some, Result, Ok, Err}
use Rattle.olr_app.specs.Common.{IsOutcome, Reference, Refused, KeyValue, CursorRead, Mark}
use Rattle.olr_keys.specs.Cursor.{IsCursorOf}
use Rattle.olr_request.specs.Fault.{fault_of}
use Rattle.olr_request.specs.Request.{cursor_of, text_of}
use Rattle.olr_app.specs.declared.accepting.Accepted.{Accepted}
use Rattle.olr_request.specs.declared.fault.Fault.{Fault}
use Rattle.olr_request.specs.declared.fault.Fault.TheVariants.{BadCursor}
use Rattle.olr_request.specs.declared.request.Request.{Request}

-- the reference of a text, or the fault with which the text is refused
abbrev pub IsReferenceOf : List ℕ → Result Reference Fault → Type 0
IsReferenceOf text (Ok reference) = IsOutcome text (Ok reference)
IsReferenceOf text (Err fault) =
    (refused : Refused) × IsOutcome text (Err refused) × (fault ≡ fault_of refused)

-- Where the pages begin: after the matching that the text of a cursor names, or without one at the
-- first matching. Or the fault of a text that is no cursor.
abbrev pub IsStart : Option (List ℕ) → Result (Option CursorRead) Fault → Type 0
IsStart None (Ok start) = start ≡ None
IsStart None (Err fault) = ⊥
IsStart (Some text) (Ok start) =
    (read : CursorRead) × (start ≡ Some read) × IsCursorOf read.key read.mark text
IsStart (Some text) (Err fault) =
    (fault ≡ BadCursor) × ((key : KeyValue) (mark : Option Mark) → ¬ IsCursorOf key mark text)

-- The texts are accepted: the first one is that of a reference, and the second one, if it is there,
-- that of a cursor. Or the fault with which they are refused: that of the reference before that of
-- the cursor.
abbrev pub AcceptsTexts : List ℕ → Option (List ℕ) → Result Accepted Fault → Type 0
AcceptsTexts text cursor (Ok accepted) =
    IsReferenceOf text (Ok accepted.reference) × IsStart cursor (Ok accepted.start)
AcceptsTexts text cursor (Err fault) =
    IsReferenceOf text (Err fault)
    ⊎ ((reference : Reference) × IsReferenceOf text (Ok reference) × IsStart cursor (Err fault))

-- a request is accepted, or refused, for its text and that of its cursor
abbrev pub Accepts : Request → Result Accepted Fault → Type 0
Accepts request = AcceptsTexts (text_of request) (cursor_of request)

-- the request is accepted
abbrev pub IsAccepted : Request → Type 0
IsAccepted request = (accepted : Accepted) × Accepts request (Ok accepted)

-- What is refused so is answered by its refusal, whatever memory and devices do.
pub record ReportsRefusal {T : Type 0} (request : Request) (result : Result T Fault) : Type 0 where
  pub reports : (fault : Fault) → Accepts request (Err fault) → result ≡ Err fault

-- a text has one outcome at most
abbrev pub OneOutcome : Type 0
OneOutcome = (text : List ℕ) (one other : Result Reference Refused)
    → IsOutcome text one → IsOutcome text other → one ≡ other
