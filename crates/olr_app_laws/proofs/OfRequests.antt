-- The replies to texts of requests, beside those of `batch` and of runs.
use Rattle.olr_app_laws.proofs.Common.{◌≡◌, ◌≢◌, ℕ, List, Option, Ok, Err, Result, refl, sym, ◌∙◌, subst, inl, inr, at_bytes, Fault, Request, Candidates, Match, Places, Show, Why, RoadMap, IsMapOf, IsSameOutput, known, same_ok, no_ok_and_err}
use Rattle.std.specs.Prelude.{◌↔◌}
use Rattle.olr_app.specs.Answer.{IsAnswer as IsAnswerOfRun, IsAnswerOfMany, IsFaultOfMany}
use Rattle.olr_request.specs.Question.{asked_alone}
use Rattle.olr_request.specs.declared.confidence_file.ConfidenceFile.{ConfidenceFile}
use Rattle.olr_request.specs.declared.fault.Fault.TheVariants as fault
use Rattle.olr_request.specs.declared.question.Question.{Question}
use Rattle.olr_app_laws.specs.RecordLaws.{AsksAlone, BatchFaultIsAnswers, BatchIsAnswer, LawsBelow, LinesAreOfRuns, RequestFaultsAreOfRuns, RequestsAreOfRuns}
use Rattle.olr_words.specs.OneRequest.{StateTheSame, placeless}
use Rattle.olr_app.specs.Lines.{AreLinesPrinted}
use Rattle.olr_batch.specs.Answers.{IsAnswerTo, IsAsked, IsFaultFor, IsFaultTo, IsReply}
use Rattle.olr_request.specs.declared.request.LegsRequest.{LegsRequest}
use Rattle.olr_request.specs.declared.request.LinesRequest.{LinesRequest}
use Rattle.olr_request.specs.declared.request.Query.{Query}
use Rattle.olr_request.specs.declared.request.Query.TheVariants.{Legs, Lines, Reference}
use Rattle.olr_words.specs.declared.asked.Records.TheVariants.{Requests}
use Rattle.olr_words.specs.declared.record.RecordFault.{RecordFault}
use Rattle.olr_words.specs.declared.record.RecordFault.TheVariants as record_fault
use Rattle.olr_app_laws.proofs.LinesOnce.{one_output}
use Rattle.olr_app_laws.proofs.OneAsked.{one_asked}
use Rattle.olr_app_laws.proofs.OneReply.{cast, moved, no_fault, placed, lines_unlike_legs, same_lines, same_stated, unlike, unlike_legs}

abbrev fault_of_request : Fault → RecordFault
fault_of_request why = record_fault.Fault why

same_why : (one other : Fault) → fault_of_request one ≡ fault_of_request other → one ≡ other
same_why one other same = cc

-- the fault of a request, which isn't that memory was refused, is its answer
answer_of : (road : RoadMap) (request : Request) (why has : Fault) → why ≢ fault.NoMemory
    → fault_of_request why ≡ fault_of_request has → IsFaultOfMany road request has
    → IsAnswerOfMany road request (Err why)
answer_of road request why has other same is = elim is [
  | inl answer ↦ subst (λ (w : Fault). IsAnswerOfMany road request (Err w))
      (sym (same_why why has same)) answer
  | inr memory ↦ absurd (other (same_why why has same ∙ memory.0))
]

module _ (laws : LawsBelow) (confidence : Option ConfidenceFile) (text : List ℕ) where
  -- what the text asks for with this confidence is one thing
  abbrev Asks : Result Query RecordFault → Type 0
  Asks asked = IsAsked (Requests confidence) text asked

  once : (one other : Result Query RecordFault) → Asks one → Asks other → StateTheSame one other
  once one other is its = one_asked laws.request confidence text one other is its

  same_request : (one other : Request) → Asks (Ok (Reference one)) → Asks (Ok (Reference other))
      → placeless one ≡ placeless other
  same_request one other is its =
      same_stated one other (once (Ok (Reference one)) (Ok (Reference other)) is its)

  -- a text of a request has no fault of words or numbers
  none_refused : (request : Request) (why : Fault) → why ≢ fault.NoMemory
      → Asks (Ok (Reference request)) → Asks (Err (record_fault.Fault why)) → ⊥
  none_refused request why other is its = no_fault (Reference request) why other
      (once (Ok (Reference request)) (Err (record_fault.Fault why)) is its)

  -- ---- what is answered to a text that asks for a request of a reference

  module _ (road : RoadMap) (request : Request) (asked : Asks (Ok (Reference request))) where
    no_lines : (other : LinesRequest) → Asks (Ok (Lines other)) → ⊥
    no_lines other its =
        unlike request other (once (Ok (Reference request)) (Ok (Lines other)) asked its)

    no_legs : (other : LegsRequest) → Asks (Ok (Legs other)) → ⊥
    no_legs other its =
        unlike_legs request other (once (Ok (Reference request)) (Ok (Legs other)) asked its)

    answers_request : (answer : List ℕ) (query : Query) → Asks (Ok query)
        → IsAnswerTo road query answer → IsAnswerOfMany road request (Ok answer)
    answers_request answer (Reference one) its is =
        moved road one request (Ok answer) (same_request one request its asked) is
    answers_request answer (Legs other) its is = absurd (no_legs other its)
    answers_request answer (Lines other) its is = absurd (no_lines other its)

    faults_request : (why has : Fault) (query : Query) → why ≢ fault.NoMemory
        → fault_of_request why ≡ fault_of_request has → Asks (Ok query)
        → IsFaultTo road query has → IsAnswerOfMany road request (Err why)
    faults_request why has (Reference one) other same its is =
        moved road one request (Err why) (same_request one request its asked)
        (answer_of road one why has other same is)
    faults_request why has (Legs legs) other same its is = absurd (no_legs legs its)
    faults_request why has (Lines lines) other same its is = absurd (no_lines lines its)

    -- the reply to the text, and a fault in place of it
    replied : (answer : List ℕ) → IsReply (Requests confidence) road text answer
        → IsAnswerOfMany road request (Ok answer)
    replied answer reply = answers_request answer reply.0 reply.1 reply.2

    refused : (why : Fault) → why ≢ fault.NoMemory
        → IsFaultFor (Requests confidence) road text (record_fault.Fault why)
        → IsAnswerOfMany road request (Err why)
    refused why other is = elim is [
      | inl never ↦ absurd (none_refused request why other asked never)
      | inr has ↦ faults_request why has.1 has.0 other has.4 has.2 has.3
    ]

  -- ---- lines

  lines_answered : (road : RoadMap) (asked : LinesRequest) (answer : List ℕ) (query : Query)
      → Asks (Ok (Lines asked)) → Asks (Ok query)
      → IsAnswerTo road query answer → AreLinesPrinted asked road answer
  lines_answered road asked answer (Reference request) lines its is =
      absurd (unlike request asked (once (Ok (Reference request)) (Ok (Lines asked)) its lines))
  lines_answered road asked answer (Legs other) lines its is =
      absurd (lines_unlike_legs asked other (once (Ok (Lines asked)) (Ok (Legs other)) lines its))
  lines_answered road asked answer (Lines other) lines its is =
      subst (λ (r : LinesRequest). AreLinesPrinted r road answer)
      (same_lines other asked (once (Ok (Lines other)) (Ok (Lines asked)) its lines)) is

-- ---- beside `batch`

module _ (confidence : Option ConfidenceFile) (question : Question) (road : RoadMap)
    (reference text : List ℕ) (asks : AsksAlone confidence question reference text)
    (answer : Result (List ℕ) Fault) where
  abbrev alone : Request
  alone = asked_alone question.what question.tolerances (at_bytes reference)

  to_text : IsAnswerOfMany road alone answer → IsAnswerOfMany road asks.request answer
  to_text is = cast (sym (placed road asks.request answer))
      (subst (λ (r : Request). IsAnswerOfMany road r answer) (sym asks.alone) is)

  to_reference : IsAnswerOfMany road asks.request answer → IsAnswerOfMany road alone answer
  to_reference is = subst (λ (r : Request). IsAnswerOfMany road r answer) asks.alone
      (cast (placed road asks.request answer) is)

pub batch_is_answer : LawsBelow → BatchIsAnswer
batch_is_answer laws confidence question road reference text output asks = (
  λ reply. (
    Reference asks.request,
    asks.asked,
    to_text confidence question road reference text asks (Ok output)
        (subst (λ (q : Query). IsAnswerTo road q output) (same_ok reply.1) reply.2),
  ),
  λ reply. (
    Reference (asked_alone question.what question.tolerances (at_bytes reference)),
    refl,
    to_reference confidence question road reference text asks (Ok output)
        (replied laws confidence text road asks.request asks.asked output reply),
  ),
)

pub batch_fault_is_answers : LawsBelow → BatchFaultIsAnswers
batch_fault_is_answers laws confidence question road reference text why asks other = (
  λ is. elim is [
    | inl never ↦ no_ok_and_err (sym never)
    | inr has ↦ inr (
      Reference asks.request,
      why,
      asks.asked,
      inl (to_text confidence question road reference text asks (Err why)
          (answer_of road _ why has.1 other has.4
          (subst (λ (q : Query). IsFaultTo road q has.1) (same_ok has.2) has.3))),
      refl,
    )
  ],
  λ is. inr (
    Reference (asked_alone question.what question.tolerances (at_bytes reference)),
    why,
    refl,
    inl (to_reference confidence question road reference text asks (Err why)
        (refused laws confidence text road asks.request asks.asked why other is)),
    refl,
  ),
)

-- ---- beside runs

module _ (laws : LawsBelow) (nodes lines bans : List ℕ) (road : RoadMap)
    (is_map : IsMapOf nodes lines bans road)
  where
    output_of_run : (request : Request) (output answer : List ℕ)
        → IsAnswerOfRun (known nodes lines bans) request (Ok output)
        → IsAnswerOfMany road request (Ok answer) → IsSameOutput request road output answer
    output_of_run (Show text format) output answer run is = same_ok
        (laws.one road (Show text format) is_map.sound (Ok answer) (Ok output) is run)
    output_of_run (Candidates text tolerances extras format) output answer run is =
        laws.output nodes lines bans road (Candidates text tolerances extras format) output answer
        is_map tt run is
    output_of_run (Match asked) output answer run is =
        laws.output nodes lines bans road (Match asked) output answer is_map tt run is
    output_of_run (Places asked) output answer run is =
        laws.output nodes lines bans road (Places asked) output answer is_map tt run is
    output_of_run (Why asked) output answer run is =
        laws.output nodes lines bans road (Why asked) output answer is_map tt run is

    fault_of_run : (request : Request) (why : Fault)
        → IsAnswerOfRun (known nodes lines bans) request (Err why)
        ↔ IsAnswerOfMany road request (Err why)
    fault_of_run (Show text format) why = (λ is. is, λ is. is)
    fault_of_run (Candidates text tolerances extras format) why =
        laws.fault nodes lines bans road (Candidates text tolerances extras format) why is_map tt
    fault_of_run (Match asked) why = laws.fault nodes lines bans road (Match asked) why is_map tt
    fault_of_run (Places asked) why = laws.fault nodes lines bans road (Places asked) why is_map tt
    fault_of_run (Why asked) why = laws.fault nodes lines bans road (Why asked) why is_map tt

pub requests_are_of_runs : LawsBelow → RequestsAreOfRuns
requests_are_of_runs laws nodes lines bans road confidence text request output answer is_map asked
    run reply = output_of_run laws nodes lines bans road is_map request output answer run
    (replied laws confidence text road request asked answer reply)

pub request_faults_are_of_runs : LawsBelow → RequestFaultsAreOfRuns
request_faults_are_of_runs laws nodes lines bans road confidence text request why is_map asked
    other =
    let run = fault_of_run laws nodes lines bans road is_map request why in (
      λ is. inr (Reference request, why, asked, inl (run.0 is), refl),
      λ is. run.1 (refused laws confidence text road request asked why other is),
    )

-- ---- lines

pub lines_are_of_runs : LawsBelow → LinesAreOfRuns
lines_are_of_runs laws road confidence text asked output answer lines run reply =
    one_output asked road answer output
    (lines_answered laws confidence text road asked answer reply.0 lines reply.1 reply.2) run
