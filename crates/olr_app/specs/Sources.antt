-- What becomes of the source of a file of a map, for a request.
use Rattle.std.specs.Prelude.{◌≡◌, ℕ, ◌⊎◌, ⊤, List, Option, Result, Ok, Err}
use Rattle.olr_app.specs.Common.{Refused, File, MapFault}
use Rattle.olr_map.specs.Files.{IsEffect, IsReadWhole}
use Rattle.olr_request.specs.Fault.{fault_of, fault_of_map}
use Rattle.olr_request.specs.declared.fault.Fault.{Fault}
use Rattle.olr_request.specs.declared.fault.Fault.TheVariants.{BadConfidence, BadCursor, CursorNotHere, CursorOfOther}
use Rattle.olr_request.specs.declared.fault.Fault.TheVariants.{InputNotRead, TooManyCandidates, WriteFailed}
use Rattle.olr_request.specs.declared.request.Request.{Request}
use Rattle.olr_request.specs.declared.request.Request.TheVariants.{Show}

-- a fault that there is only once the map is read
abbrev pub IsAfterMap : Fault → Type 0
IsAfterMap BadConfidence = ⊤
IsAfterMap (TooManyCandidates number) = ⊤
IsAfterMap CursorOfOther = ⊤
IsAfterMap CursorNotHere = ⊤
IsAfterMap InputNotRead = ⊤
IsAfterMap WriteFailed = ⊤
IsAfterMap fault = ⊥

-- a fault of the request's own texts: its reference is refused, or its cursor
abbrev pub IsOfRequest : Fault → Type 0
IsOfRequest fault = ((refused : Refused) × (fault ≡ fault_of refused)) ⊎ (fault ≡ BadCursor)

module _ {S : Type 0} (left : S → Option (List ℕ)) (failed : S → ℕ) (old new : S) where
  -- What a fault leaves of the source of a file, where a map is read. No call of it was made where
  -- the text of the reference or of the cursor is refused; with a fault of the map it is what the
  -- reading of the map left; and after the map it was read to its end.
  abbrev pub FaultLeaves : File → Fault → Type 0
  FaultLeaves file fault = (IsOfRequest fault × (new ≡ old))
      ⊎ ((why : MapFault) × (fault ≡ fault_of_map why) × IsEffect left failed old new file why)
      ⊎ (IsAfterMap fault × IsReadWhole left failed old new)

  -- What becomes of the source of a file, where a map is read: with an answer it was read to its
  -- end.
  abbrev pub LeavesFile : {T : Type 0} → File → Result T Fault → Type 0
  LeavesFile file (Ok answer) = IsReadWhole left failed old new
  LeavesFile file (Err fault) = FaultLeaves file fault

  -- What an answer leaves of the source of a file. A request to show a reference reads no map,
  -- whatever comes of it.
  abbrev pub AnswerLeaves : {T : Type 0} → File → Request → Result T Fault → Type 0
  AnswerLeaves file (Show text format) result = new ≡ old
  AnswerLeaves file other result = LeavesFile file result
