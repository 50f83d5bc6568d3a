-- A request is accepted in one way, or refused with one fault.
use Rattle.olr_app.proofs.Common.{Reference, OneCursor, KeyValue, CursorRead, Mark, Accepts, IsStart, fault_of, OneOutcome, AndThen, Accepted, Fault, BadCursor, Request, ◌≡◌, ℕ, List, Option, None, Some, Ok, Err, ap, refl, sym, ◌∙◌, Result, IsReferenceOf, ReportsRefusal}
use Rattle.olr_app.specs.Accepting.{AcceptsTexts}
use Rattle.olr_app.proofs.Single.{IsSingle, err_of, first_then, no_ok_and_err, ok_of, same_err, same_ok}

-- ---- records by their fields

abbrev read_of : KeyValue → Option Mark → CursorRead
read_of key mark = record { key = key; mark = mark }

same_read : (one other : CursorRead) → one.key ≡ other.key → one.mark ≡ other.mark → one ≡ other
same_read one other key mark =
    ap (λ k. read_of k one.mark) key ∙ ap (read_of other.key) mark

abbrev accepted_of : Reference → Option CursorRead → Accepted
accepted_of reference start = record { reference = reference; start = start }

same_accepted : (one other : Accepted) → one.reference ≡ other.reference
    → one.start ≡ other.start → one ≡ other
same_accepted one other reference start =
    ap (λ r. accepted_of r one.start) reference
    ∙ ap (accepted_of other.reference) start

-- ---- a reference

pub reference_once : OneOutcome → (text : List ℕ) → IsSingle (IsReferenceOf text)
reference_once law text (Ok one) (Ok other) is again =
    ap Ok (same_ok (law text (Ok one) (Ok other) is again))
reference_once law text (Ok one) (Err other) is again =
    no_ok_and_err (law text (Ok one) (Err again.0) is again.1)
reference_once law text (Err one) (Ok other) is again =
    no_ok_and_err (law text (Ok other) (Err is.0) again is.1)
reference_once law text (Err one) (Err other) is again = ap Err
    (is.2 ∙ ap fault_of (same_err (law text (Err is.0) (Err again.0) is.1 again.1)) ∙ sym again.2)

-- ---- a cursor

-- it has one fault
pub start_fault : (cursor : Option (List ℕ)) (fault : Fault) → IsStart cursor (Err fault)
    → fault ≡ BadCursor
start_fault None fault is = absurd is
start_fault (Some text) fault is = is.0

pub start_once : OneCursor → (cursor : Option (List ℕ)) → IsSingle (IsStart cursor)
start_once law None (Ok one) (Ok other) is again = ap Ok (is ∙ sym again)
start_once law None (Ok one) (Err other) is again = absurd again
start_once law None (Err one) other is again = absurd is
start_once law (Some text) (Ok one) (Ok other) is again =
    let same = law _ _ _ _ _ is.2 again.2 in
    ap Ok (is.1 ∙ ap Some (same_read is.0 again.0 same.0 same.1) ∙ sym again.1)
start_once law (Some text) (Ok one) (Err other) is again = absurd (again.1 _ _ is.2)
start_once law (Some text) (Err one) (Ok other) is again = absurd (is.1 _ _ again.2)
start_once law (Some text) (Err one) (Err other) is again = ap Err (is.0 ∙ sym again.0)

-- ---- the texts of a request

-- what is accepted once the text is that of a reference
abbrev Begins : Option (List ℕ) → Reference → Result Accepted Fault → Type 0
Begins cursor reference (Ok accepted) =
    (accepted.reference ≡ reference) × IsStart cursor (Ok accepted.start)
Begins cursor reference (Err fault) = IsStart cursor (Err fault)

begins_once : OneCursor → (cursor : Option (List ℕ)) (reference : Reference)
    → IsSingle (Begins cursor reference)
begins_once law cursor reference (Ok one) (Ok other) is again =
    ap Ok (same_accepted one other (is.0 ∙ sym again.0)
    (same_ok (start_once law cursor (Ok one.start) (Ok other.start) is.1 again.1)))
begins_once law cursor reference (Ok one) (Err other) is again =
    no_ok_and_err (start_once law cursor (Ok one.start) (Err other) is.1 again)
begins_once law cursor reference (Err one) (Ok other) is again =
    no_ok_and_err (start_once law cursor (Ok other.start) (Err one) again.1 is)
begins_once law cursor reference (Err one) (Err other) is again =
    ap Err (same_err (start_once law cursor (Err one) (Err other) is again))

in_stages : (text : List ℕ) (cursor : Option (List ℕ)) (result : Result Accepted Fault)
    → AcceptsTexts text cursor result
    → AndThen (IsReferenceOf text) (Begins cursor) result
in_stages text cursor (Ok accepted) is = (accepted.reference, is.0, (refl, is.1))
in_stages text cursor (Err fault) is = is

pub accepted_once : OneOutcome → OneCursor → (text : List ℕ) (cursor : Option (List ℕ))
    → IsSingle (AcceptsTexts text cursor)
accepted_once outcome law text cursor one other is again =
    first_then (IsReferenceOf text) (Begins cursor) (reference_once outcome text)
    (λ reference its. begins_once law cursor reference) one other
    (in_stages text cursor one is) (in_stages text cursor other again)

-- where a request is refused, what passes on the refusal reports it
pub passed_on : {T : Type 0} {request : Request} {fault : Fault} {result : Result T Fault}
    → ((other : Result Accepted Fault) → Accepts request other
    → other ≡ err_of Accepted Fault fault)
    → result ≡ Err fault → ReportsRefusal request result
passed_on only same = record {
  reports = λ why is. same ∙ ap Err (sym (same_err (only (Err why) is)));
}

-- where it is accepted, there is no refusal to report
pub none_refused : {T : Type 0} {request : Request} {accepted : Accepted} {result : Result T Fault}
    → ((other : Result Accepted Fault) → Accepts request other
    → other ≡ ok_of Accepted Fault accepted)
    → ReportsRefusal request result
none_refused only = record { reports = λ why is. no_ok_and_err (sym (only (Err why) is)) }
