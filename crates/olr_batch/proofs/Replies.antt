-- The reply to a text, from the answer to its request.
use Rattle.olr_batch.proofs.Common.{◌≡◌, ap, ℕ, List, Bor, Option, Ok, Err, Result, IfErr, IfOk, refl, inl, inr, subst, NoMemory, RoadMap, Fault}
use Rattle.olr_app.proofs.Alone.{anywhere}
use Rattle.olr_app.specs.Accepting.{IsAccepted}
use Rattle.olr_app.specs.Answer.{IsAnswerOfMany, IsFaultOfMany}
use Rattle.olr_candidates.specs.declared.tolerances.Tolerances.{Tolerances}
use Rattle.olr_request.specs.Question.{asked_alone}
use Rattle.olr_request.specs.Request.{at_bytes, query_with_confidence}
use Rattle.olr_request.specs.declared.confidence_file.ConfidenceFile.{ConfidenceFile}
use Rattle.olr_request.specs.declared.question.Question.{Question}
use Rattle.olr_request.specs.declared.question.QuestionKind.{QuestionKind}
use Rattle.olr_request.specs.declared.question.QuestionKind.TheVariants.{Candidates, Match, Places, Why}
use Rattle.olr_request.specs.declared.request.Query.{Query}
use Rattle.olr_request.specs.declared.request.Query.TheVariants.{Reference}
use Rattle.olr_request.specs.declared.request.Request.{Request}
use Rattle.olr_batch.specs.Answers.{IsAnswerTo, IsAsked, IsFaultFor, IsFaultTo, IsReply}
use Rattle.olr_words.specs.Record.{IsQueryOfWords}
use Rattle.olr_words.specs.RecordWords.{ArePartsOf, Parts}
use Rattle.olr_words.specs.declared.record.RecordFault.{RecordFault}
use Rattle.olr_words.specs.declared.record.RecordFault.TheVariants as record_fault
use Rattle.olr_words.specs.declared.asked.Records.TheVariants.{References, Requests}

-- a text is accepted by its bytes, wherever it lies
accepted_alone : (what : QuestionKind) (tolerances : Tolerances) (text : Bor (List ℕ))
    → IsAccepted (asked_alone what tolerances text)
    → IsAccepted (asked_alone what tolerances (at_bytes text.now))
accepted_alone (Candidates extras) tolerances text is = is
accepted_alone (Match size extras) tolerances text is = is
accepted_alone (Places limits order extras confidence) tolerances text is = is
accepted_alone (Why nearest shape) tolerances text is = is

module _ (question : Question) (road : RoadMap) (text : Bor (List ℕ)) where
  abbrev here : Request
  here = asked_alone question.what question.tolerances text

  abbrev alone : Request
  alone = asked_alone question.what question.tolerances (at_bytes text.now)

  -- the answer to a question about the reference
  pub answer_of : (request : Request) (output : List ℕ) → request ≡ here
      → IsAnswerOfMany road request (Ok output) → IsReply (References question) road text.now output
  answer_of request output same is = (
    Reference alone,
    refl,
    rw (← (anywhere question.what question.tolerances road text (Ok output)))
        (subst (λ (r : Request). IsAnswerOfMany road r (Ok output)) same is),
  )

  fault_alone : (why : Fault) → IsFaultOfMany road here why → IsFaultOfMany road alone why
  fault_alone why is = elim is [
    | inl has ↦ inl (rw (← (anywhere question.what question.tolerances road text (Err why))) has)
    | inr memory ↦ inr (
      memory.0,
      accepted_alone question.what question.tolerances text memory.1,
    )
  ]

  -- the fault in place of it
  pub fault_of : (request : Request) (why : Fault) → request ≡ here
      → IsFaultOfMany road request why
      → IsFaultFor (References question) road text.now (record_fault.Fault why)
  fault_of request why same is = inr (
    Reference alone,
    why,
    refl,
    fault_alone why (subst (λ (r : Request). IsFaultOfMany road r why) same is),
    refl,
  )

-- ---- a request

module _ (confidence : Option ConfidenceFile) (road : RoadMap) (text : List ℕ) where
  -- memory for its words was refused
  pub no_words : IsFaultFor (Requests confidence) road text (record_fault.Fault NoMemory)
  no_words = inl (Err (record_fault.Fault NoMemory), inl refl, refl)

  -- the fault of what is asked for
  pub fault_to : (query : Query) (why : Fault) → IsAsked (Requests confidence) text (Ok query)
      → IsFaultTo road query why
      → IsFaultFor (Requests confidence) road text (record_fault.Fault why)
  fault_to query why asked is = inr (query, why, asked, is, refl)

  module _ (words : Parts) (are_words : ArePartsOf text words) where
    -- what its words ask for
    pub by_words : (query own : Query) → IsQueryOfWords words (Ok own)
        → query ≡ query_with_confidence confidence own
        → IsAsked (Requests confidence) text (Ok query)
    by_words query own is same = (Ok own, inr (words, are_words, is), ap Ok same)

    -- why they ask for nothing
    pub refused : (why : RecordFault) → IsQueryOfWords words (Err why)
        → IsFaultFor (Requests confidence) road text why
    refused why is = inl (Err why, inr (words, are_words, is), refl)

  module _ (query : Query) (asked : IsAsked (Requests confidence) text (Ok query)) {T : Type 0}
      (bytes : T → List ℕ) where
    -- the reply by what is asked for
    pub reply_by : (result : Result T RecordFault)
        → IfOk result (λ answer. IsAnswerTo road query (bytes answer))
        → IfOk result (λ answer. IsReply (Requests confidence) road text (bytes answer))
    reply_by (Ok answer) is = (query, asked, is)
    reply_by (Err why) is = tt

    -- and the fault in place of it
    pub fault_by : (result : Result T RecordFault)
        → IfErr result (λ why. (fault : Fault) × IsFaultTo road query fault
        × (why ≡ record_fault.Fault fault))
        → IfErr result (IsFaultFor (Requests confidence) road text)
    fault_by (Ok answer) is = tt
    fault_by (Err why) is = inr (query, is.0, asked, is.1, is.2)
