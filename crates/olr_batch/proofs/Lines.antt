-- The line of a record, from the answer to its text.
use Rattle.olr_batch.proofs.Common.{◌≡◌, ℕ, List, Option, None, refl, inl, inr, RoadMap, line_text, IsLineOfText, Records}
use Rattle.olr_request.specs.declared.fault.Fault.TheVariants as fault
use Rattle.olr_request.specs.declared.request.Query.{Query}
use Rattle.olr_request.specs.declared.request.Query.TheVariants.{Legs, Lines, Reference}
use Rattle.olr_batch.specs.Answers.{IsAnswerTo, IsFaultFor, IsFaultTo, IsReply}
use Rattle.olr_batch.specs.Records.{without_line_feed}
use Rattle.olr_words.specs.declared.record.RecordFault.TheVariants as record_fault

-- memory may be refused where there is an answer
memory_to : (road : RoadMap) (query : Query) (output : List ℕ) → IsAnswerTo road query output
    → IsFaultTo road query fault.NoMemory
memory_to road (Reference request) output is = inr (refl, (is.0, is.1))
memory_to road (Legs asked) output is = inr (refl, (is.0, is.1))
memory_to road (Lines asked) output is = refl

module _ (records : Records) (road : RoadMap) (text : List ℕ) where
  -- the line of an answer
  pub found_line : (number : ℕ) (key : Option (List ℕ)) (output line : List ℕ)
      → IsReply records road text output
      → line ≡ line_text (without_line_feed output) None key number
      → IsLineOfText records road number key text line
  found_line number key output line is written = inl (output, is, written)

  -- the same of a record
  pub no_memory_for : (output : List ℕ) → IsReply records road text output
      → IsFaultFor records road text (record_fault.Fault fault.NoMemory)
  no_memory_for output is =
      inr (is.0, fault.NoMemory, is.1, memory_to road is.0 output is.2, refl)
