-- Laws on the answers to records. Each is the contract of a public function that does nothing at
-- run time.
use Rattle.std.specs.Prelude.{◌≡◌, ◌≢◌, ◌↔◌, ℕ, List, Option, None, Some, Result, Ok, Err}
use Rattle.std.specs.Borrow.{Bor}
use Rattle.olr_map.specs.Files.{IsMapOf, known}
use Rattle.olr_road.specs.RoadMap.{IsSoundMap, RoadMap}
use Rattle.olr_app.specs.Answer.{IsAnswer as IsAnswerOfRun, IsAnswerOfMany}
use Rattle.olr_app.specs.Lines.{AreLinesPrinted}
use Rattle.olr_app_laws.specs.AnswerLaws.{FaultIsOfRun, IsSameOutput, OneAnswerOfMany, OutputIsOfRun, ShowsSame}
use Rattle.olr_request.specs.Question.{asked_alone}
use Rattle.olr_request.specs.Request.{at_bytes}
use Rattle.olr_app.specs.Stages.{IsSingle}
use Rattle.olr_request.specs.declared.confidence_file.ConfidenceFile.{ConfidenceFile}
use Rattle.olr_request.specs.declared.fault.Fault.{Fault}
use Rattle.olr_request.specs.declared.fault.Fault.TheVariants as fault
use Rattle.olr_batch.specs.Answers.{IsAsked, IsFaultFor, IsReply}
use Rattle.olr_request.specs.declared.request.Format.TheVariants.{Json}
use Rattle.olr_request.specs.declared.request.LegsRequest.{LegsRequest}
use Rattle.olr_request.specs.declared.request.LinesRequest.{LinesRequest}
use Rattle.olr_request.specs.declared.request.Query.{Query}
use Rattle.olr_request.specs.declared.request.Query.TheVariants.{Legs, Lines, Reference}
use Rattle.olr_request.specs.declared.request.Request.{Request}
use Rattle.olr_words.specs.OneRequest.{AreEqual, StateTheSame, placeless}
use Rattle.olr_words.specs.Record.{IsQueryOf}
use Rattle.olr_words.specs.declared.record.RecordFault.{RecordFault}
use Rattle.olr_words.specs.declared.record.RecordFault.TheVariants as record_fault
use Rattle.olr_words.specs.declared.asked.Records.{Records}
use Rattle.olr_words.specs.declared.asked.Records.TheVariants.{References, Requests}
use Rattle.olr_request.specs.declared.question.Question.{Question}
use Rattle.olr_request.specs.declared.question.QuestionKind.{QuestionKind}
use Rattle.olr_request.specs.declared.question.QuestionKind.TheVariants.{Match}

-- the answer to the text of a reference, of which a question is asked, or the fault in place of it
abbrev pub IsAnswer : Question → RoadMap → List ℕ → Result (List ℕ) Fault → Type 0
IsAnswer asked road text =
    IsAnswerOfMany road (asked_alone asked.what asked.tolerances (at_bytes text))

-- an answer is the output of a run; one with matchings shows the same page, but the cursor at the
-- end of an output has a mark
abbrev pub IsSameAnswer : QuestionKind → RoadMap → List ℕ → List ℕ → Type 0
IsSameAnswer (Match size extras) road output answer = ShowsSame Json extras road output answer
IsSameAnswer other road output answer = answer ≡ output

-- The answer to a text is what a run prints for it on the same files.
abbrev pub AnswersAreOfRuns : Type 0
AnswersAreOfRuns = (nodes lines bans : List ℕ) (road : RoadMap) (asked : Question)
    (text : Bor (List ℕ)) (output answer : List ℕ)
    → IsMapOf nodes lines bans road
    → IsAnswerOfRun (known nodes lines bans) (asked_alone asked.what asked.tolerances text)
    (Ok output)
    → IsAnswer asked road text.now (Ok answer) → IsSameAnswer asked.what road output answer

-- A text has a fault in place of an answer exactly where such a run ends with this fault.
abbrev pub FaultsAreOfRuns : Type 0
FaultsAreOfRuns = (nodes lines bans : List ℕ) (road : RoadMap) (asked : Question)
    (text : Bor (List ℕ)) (fault : Fault)
    → IsMapOf nodes lines bans road
    → (IsAnswerOfRun (known nodes lines bans) (asked_alone asked.what asked.tolerances text)
    (Err fault) → IsAnswer asked road text.now (Err fault))
    × (IsAnswer asked road text.now (Err fault)
    → IsAnswerOfRun (known nodes lines bans) (asked_alone asked.what asked.tolerances text)
    (Err fault))

-- A text has one answer, or one fault in place of it, and not both: by the map and what is asked,
-- whatever stands before it.
abbrev pub OneAnswer : Type 0
OneAnswer = (road : RoadMap) (asked : Question) (text : List ℕ) → IsSoundMap road
    → IsSingle (IsAnswer asked road text)

-- ---- the reply to a text

-- the answer to a text, or the fault in place of it
abbrev pub Replies : Records → RoadMap → List ℕ → Result (List ℕ) RecordFault → Type 0
Replies records road text (Ok answer) = IsReply records road text answer
Replies records road text (Err why) = IsFaultFor records road text why

-- What a reply states of a text: its answer, or its fault, or by `Some (Err None)` that its words ask
-- for nothing. It states nothing where memory was refused.
abbrev pub shown : Result (List ℕ) RecordFault → Option (Result (List ℕ) (Option Fault))
shown (Ok answer) = Some (Ok answer)
shown (Err (record_fault.Words line)) = Some (Err None)
shown (Err (record_fault.Fault fault.NoMemory)) = None
shown (Err (record_fault.Fault why)) = Some (Err (Some why))

-- a text doesn't ask for the legs of a matching
abbrev pub AsksForNoLegs : Records → List ℕ → Type 0
AsksForNoLegs records text = (asked : LegsRequest) → ¬ (IsAsked records text (Ok (Legs asked)))

-- The text of a record has one answer or one fault at most, and not both, by the map, by what records
-- are and by that text alone: also where the text is a whole request, but for one for legs, whose
-- search may be cut in more than one place. `NoMemory` may come in place of either, and the line of a
-- fault of words isn't stated.
abbrev pub OneReply : Type 0
OneReply = (records : Records) (road : RoadMap) (text : List ℕ)
    (one other : Result (List ℕ) RecordFault) → IsSoundMap road → AsksForNoLegs records text
    → Replies records road text one → Replies records road text other
    → AreEqual (shown one) (shown other)

-- ---- requests, beside `batch` and runs

-- the text of a request asks a question of a reference, as `batch` does, both with the file of this
-- confidence
pub record AsksAlone (confidence : Option ConfidenceFile) (question : Question)
    (reference text : List ℕ) : Type 0 where
  pub request : Request
  pub asked : IsAsked (Requests confidence) text (Ok (Reference request))
  pub alone : placeless request
      ≡ asked_alone question.what question.tolerances (at_bytes reference)

-- Such a text is answered as the reference is as a record of `batch`.
abbrev pub BatchIsAnswer : Type 0
BatchIsAnswer = (confidence : Option ConfidenceFile) (question : Question) (road : RoadMap)
    (reference text output : List ℕ) → AsksAlone confidence question reference text
    → IsReply (References question) road reference output
    ↔ IsReply (Requests confidence) road text output

-- It has the same faults. Of `NoMemory` nothing is stated: memory for its words may be refused.
abbrev pub BatchFaultIsAnswers : Type 0
BatchFaultIsAnswers = (confidence : Option ConfidenceFile) (question : Question) (road : RoadMap)
    (reference text : List ℕ) (why : Fault) → AsksAlone confidence question reference text
    → why ≢ fault.NoMemory
    → IsFaultFor (References question) road reference (record_fault.Fault why)
    ↔ IsFaultFor (Requests confidence) road text (record_fault.Fault why)

-- The answer to the text of a request is what a run for this request prints on the same files, but
-- for the mark in the cursor at the end of a page.
abbrev pub RequestsAreOfRuns : Type 0
RequestsAreOfRuns = (nodes lines bans : List ℕ) (road : RoadMap)
    (confidence : Option ConfidenceFile) (text : List ℕ) (request : Request)
    (output answer : List ℕ) → IsMapOf nodes lines bans road
    → IsAsked (Requests confidence) text (Ok (Reference request))
    → IsAnswerOfRun (known nodes lines bans) request (Ok output)
    → IsReply (Requests confidence) road text answer → IsSameOutput request road output answer

-- It has a fault in place of an answer exactly where such a run ends with this fault of the texts.
abbrev pub RequestFaultsAreOfRuns : Type 0
RequestFaultsAreOfRuns = (nodes lines bans : List ℕ) (road : RoadMap)
    (confidence : Option ConfidenceFile) (text : List ℕ) (request : Request) (why : Fault)
    → IsMapOf nodes lines bans road
    → IsAsked (Requests confidence) text (Ok (Reference request)) → why ≢ fault.NoMemory
    → IsAnswerOfRun (known nodes lines bans) request (Err why)
    ↔ IsFaultFor (Requests confidence) road text (record_fault.Fault why)

-- ---- lines, beside a run for them

-- The text of a request for lines is answered by what a run for them prints on the same map: there is
-- one output.
abbrev pub LinesAreOfRuns : Type 0
LinesAreOfRuns = (road : RoadMap) (confidence : Option ConfidenceFile) (text : List ℕ)
    (asked : LinesRequest) (output answer : List ℕ)
    → IsAsked (Requests confidence) text (Ok (Lines asked)) → AreLinesPrinted asked road output
    → IsReply (Requests confidence) road text answer → answer ≡ output

-- ---- what these rest on

-- the words of a text ask for one thing
abbrev pub OneRequest : Type 0
OneRequest = (text : List ℕ) (one other : Result Query RecordFault) → IsQueryOf text one
    → IsQueryOf text other → StateTheSame one other

-- The laws that these rest on.
pub record LawsBelow : Type 0 where
  pub output : OutputIsOfRun
  pub fault : FaultIsOfRun
  pub one : OneAnswerOfMany
  pub request : OneRequest
