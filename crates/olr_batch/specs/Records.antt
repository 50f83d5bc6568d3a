-- What is written for the records of an input, on a map that is read. LF is the byte 10.
use Rattle.std.specs.Prelude.{◌≡◌, ℕ, ◌+◌, ◌-◌, ◌⊎◌, List, [], ◌∷◌, length, take, Option, None, Some, codes}
use Rattle.olr_road.specs.RoadMap.{RoadMap}
use Rattle.olr_messages.specs.Content.{IsMessageOfLine, Message}
use Rattle.olr_messages.specs.Content as message
use Rattle.olr_batch.specs.Answers.{IsFaultFor, IsReply}
use Rattle.olr_batch.specs.Line.{line_text}
use Rattle.olr_words.specs.Record.{record_fault_text}
use Rattle.olr_words.specs.declared.record.RecordFault.{RecordFault}
use Rattle.olr_words.specs.declared.asked.Records.{Records}

-- the line of a record that has a fault in place of an answer
abbrev pub fault_line : List ℕ → Option (List ℕ) → ℕ → List ℕ
fault_line name key number = line_text (codes "null") (Some name) key number

-- an output without its last byte, which is its line feed
abbrev pub without_line_feed : List ℕ → List ℕ
without_line_feed output = take (length output - 1) output

module _ (records : Records) (road : RoadMap) where
  -- The line of a record with a text: it has the answer to the text, or the fault in place of it.
  abbrev pub IsLineOfText : ℕ → Option (List ℕ) → List ℕ → List ℕ → Type 0
  IsLineOfText number key text line =
      ((answer : List ℕ) × IsReply records road text answer
      × (line ≡ line_text (without_line_feed answer) None key number))
      ⊎ ((fault : RecordFault) × IsFaultFor records road text fault
      × (line ≡ fault_line (record_fault_text fault) key number))

  -- what is written for a record: its line, or nothing where it is empty
  abbrev pub IsWrittenFor : ℕ → Message → List ℕ → Type 0
  IsWrittenFor number message.Empty output = output ≡ []
  IsWrittenFor number message.Long output = output ≡ fault_line (codes "LongRecord") None number
  IsWrittenFor number message.NotText output = output ≡ fault_line (codes "NotText") None number
  IsWrittenFor number (message.Text key text) output = IsLineOfText number key text output

  -- what is written for each of these lines of the input, of which the first has this number
  abbrev pub AreWrittenFor : ℕ → List (List ℕ) → List (List ℕ) → Type 0
  AreWrittenFor number [] outputs = outputs ≡ []
  AreWrittenFor number (line ∷ lines) [] = ⊥
  AreWrittenFor number (line ∷ lines) (output ∷ outputs) =
      ((said : Message) × IsMessageOfLine line said × IsWrittenFor number said output)
      × AreWrittenFor (number + 1) lines outputs
