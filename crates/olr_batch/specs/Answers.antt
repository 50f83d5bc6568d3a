-- What is answered to the text of a record, on a map that is read.
use Rattle.std.specs.Prelude.{◌≡◌, ◌⊎◌, ℕ, List, Option, Result, Ok, Err}
use Rattle.olr_road.specs.RoadMap.{RoadMap}
use Rattle.olr_app.specs.Answer.{IsAnswerOfMany, IsFaultOfMany}
use Rattle.olr_app.specs.Legs.{AreLegsOnMap, IsLegsFault}
use Rattle.olr_app.specs.Lines.{AreLinesPrinted}
use Rattle.olr_request.specs.Question.{asked_alone}
use Rattle.olr_request.specs.Request.{at_bytes, query_with_confidence}
use Rattle.olr_request.specs.declared.confidence_file.ConfidenceFile.{ConfidenceFile}
use Rattle.olr_request.specs.declared.fault.Fault.{Fault}
use Rattle.olr_request.specs.declared.fault.Fault.TheVariants.{NoMemory}
use Rattle.olr_request.specs.declared.request.Query.{Query}
use Rattle.olr_request.specs.declared.request.Query.TheVariants.{Legs, Lines, Reference}
use Rattle.olr_words.specs.Record.{IsQueryOf}
use Rattle.olr_words.specs.declared.record.RecordFault.{RecordFault}
use Rattle.olr_words.specs.declared.record.RecordFault.TheVariants as record_fault
use Rattle.olr_words.specs.declared.asked.Records.{Records}
use Rattle.olr_words.specs.declared.asked.Records.TheVariants.{References, Requests}

-- what is asked, with the file of this confidence where it is for places
abbrev pub asked_with_confidence : Option ConfidenceFile → Result Query RecordFault
    → Result Query RecordFault
asked_with_confidence confidence (Ok query) = Ok (query_with_confidence confidence query)
asked_with_confidence confidence (Err why) = Err why

-- What a text asks for, or why it asks for nothing. A reference is asked the question of all records.
-- A request says by its own words what is asked, but for the confidence, which all records have.
abbrev pub IsAsked : Records → List ℕ → Result Query RecordFault → Type 0
IsAsked (References question) text asked =
    asked ≡ Ok (Reference (asked_alone question.what question.tolerances (at_bytes text)))
IsAsked (Requests confidence) text asked = (by_words : Result Query RecordFault)
    × IsQueryOf text by_words × (asked ≡ asked_with_confidence confidence by_words)

-- the JSON that answers what is asked, on the map
abbrev pub IsAnswerTo : RoadMap → Query → List ℕ → Type 0
IsAnswerTo road (Reference request) answer = IsAnswerOfMany road request (Ok answer)
IsAnswerTo road (Legs asked) answer = AreLegsOnMap asked road (Ok answer)
IsAnswerTo road (Lines asked) answer = AreLinesPrinted asked road answer

-- the fault that comes in place of that answer; of lines only that memory was refused
abbrev pub IsFaultTo : RoadMap → Query → Fault → Type 0
IsFaultTo road (Reference request) fault = IsFaultOfMany road request fault
IsFaultTo road (Legs asked) fault = IsLegsFault asked road fault
IsFaultTo road (Lines asked) fault = fault ≡ NoMemory

-- the JSON that answers a text: that of what it asks for
abbrev pub IsReply : Records → RoadMap → List ℕ → List ℕ → Type 0
IsReply records road text answer = (query : Query) × IsAsked records text (Ok query)
    × IsAnswerTo road query answer

-- The fault that stands in place of an answer to a text: it asks for nothing; or what it asks for has
-- this fault, which may be that memory was refused.
abbrev pub IsFaultFor : Records → RoadMap → List ℕ → RecordFault → Type 0
IsFaultFor records road text why = IsAsked records text (Err why)
    ⊎ ((query : Query) × (fault : Fault) × IsAsked records text (Ok query)
    × IsFaultTo road query fault × (why ≡ record_fault.Fault fault))
