-- The run over the records of an input: what is written, and where it stops.
use Rattle.std.specs.Prelude.{◌≡◌, ℕ, ◌+◌, ◌-◌, ◌^◌, ◌≤◌, ◌⊎◌, List, [], ◌∷◌, ◌++◌, length, Option, None, Some, IfSome, Result, Ok}
use Rattle.std.specs.Io.KnownBytes.{Appends}
use Rattle.std.specs.List.{concat}
use Rattle.olr_base.specs.Counting.{one_more}
use Rattle.olr_base.specs.declared.failure.Failed.{Failed}
use Rattle.olr_map.specs.Files.{IsFaultLeft, Texts}
use Rattle.olr_road.specs.RoadMap.{RoadMap}
use Rattle.olr_map.specs.declared.fault.MapFault.{MapFault}
use Rattle.olr_request.specs.Fault.{fault_of_map}
use Rattle.olr_messages.specs.Content.{IsMessageOfLine, Message}
use Rattle.olr_messages.specs.Lines.{lines_of}
use Rattle.olr_messages.specs.Messages.{HasNoLf}
use Rattle.olr_app.specs.Writing.{HasStopped}
use Rattle.olr_request.specs.declared.fault.Fault.{Fault}
use Rattle.olr_request.specs.declared.fault.Fault.TheVariants.{InputNotRead, NoMemory, WriteFailed}
use Rattle.olr_batch.specs.Records.{AreWrittenFor, IsWrittenFor}
use Rattle.olr_batch.specs.Steps.{HasPassedOn}
use Rattle.olr_words.specs.declared.asked.Records.{Records}

-- these are the first lines of an input, if its bytes are known, and the lines of the other bytes
-- are left
abbrev pub IsLeft : List (List ℕ) → Option (List ℕ) → Option (List ℕ) → Type 0
IsLeft done None new = Unit {0}
IsLeft done (Some old) None = ⊥
IsLeft done (Some old) (Some new) = lines_of old ≡ done ++ lines_of new

module _ (records : Records) (road : RoadMap) where
  -- What is written for the first records of an input has been written, of which the first that is
  -- left has this number.
  pub record IsWrittenTo (number : ℕ) (input left : Option (List ℕ)) (old new : Option (List ℕ))
      : Type 0 where
    pub done : List (List ℕ)
    pub outputs : List (List ℕ)
    pub counted : number ≡ length done + 1
    pub are : AreWrittenFor records road 1 done outputs
    pub left_is : IsLeft done input left
    pub took : Appends old new (concat outputs)

module _ {O : Type 0} (taken : O → Option (List ℕ)) (failed : O → ℕ)
    (flush_gives : O → Result (Unit {0}) Failed → O → Type 0) (records : Records)
    (road : RoadMap)
  where
    -- What is written for the records of an input, whose bytes are these if they are known, has
    -- been written, one after the other, and nothing else; no call on the sink failed, and the last
    -- one passed on what it had taken.
    pub record AreAnswered (input : Option (List ℕ)) (old new : O) : Type 0 where
      pub outputs : List (List ℕ)
      pub written : IfSome input (λ text. AreWrittenFor records road 1 (lines_of text) outputs)
      pub took : Appends (taken old) (taken new) (concat outputs)
      pub none_failed : failed new ≡ failed old
      pub before_last : O
      pub flushed : flush_gives before_last (Ok tt) new

    -- What is written for the first records of an input has been written, and nothing else. These
    -- records are left.
    pub record AreBegun (input : Option (List ℕ)) (old new : O) : Type 0 where
      pub done : List (List ℕ)
      pub left : List (List ℕ)
      pub outputs : List (List ℕ)
      pub split : IfSome input (λ text. lines_of text ≡ done ++ left)
      pub are : AreWrittenFor records road 1 done outputs
      pub took : Appends (taken old) (taken new) (concat outputs)
      pub none_failed : failed new ≡ failed old

    -- this is the beginning of what is written for the first record that is left, or nothing
    abbrev pub IsNextOutput : {input : Option (List ℕ)} {old new : O} → AreBegun input old new
        → List ℕ → Type 0
    IsNextOutput {input} {old} {new} begun output = (output ≡ [])
        ⊎ ((line : List ℕ) × (rest : List (List ℕ)) × (said : Message)
        × IfSome input (λ _. begun.left ≡ line ∷ rest)
        × IsMessageOfLine line said × IsWrittenFor records road (length begun.done + 1) said output)

-- ---- where it stops

module _ {S O : Type 0} (left : S → Option (List ℕ)) (in_failed : S → ℕ) (taken : O
    → Option (List ℕ))
    (failed : O → ℕ) (put_gives : O → List ℕ → Result ℕ Failed → O → Type 0)
    (flush_gives : O → Result (Unit {0}) Failed → O → Type 0) (records : Records)
    (road : RoadMap)
    (old_in new_in : S) (old new : O) where
  -- The input was cut off, at the first of the lines that are left: these bytes of them were read.
  -- One call of the input failed and was counted, and no byte that was read is LF: the line is the
  -- one that it failed in. Or no call failed, and the line, or the number of lines, is beyond all
  -- that can be counted.
  pub record IsInputCut (done left_lines : List (List ℕ)) : Type 0 where
    pub read : List ℕ
    pub left_is : IfSome (left old_in)
        (λ _. IfSome (left new_in) (λ rest. left_lines ≡ lines_of (read ++ rest)))
    pub cause : (HasNoLf read × (in_failed new_in ≡ one_more (in_failed old_in)))
        ⊎ ((in_failed new_in ≡ in_failed old_in)
        × ((HasNoLf read × (2 ^ 64 - 1 ≤ length read)) ⊎ (2 ^ 64 - 2 ≤ length done)))

  -- Why the run stopped before its end, what is written for the first records having been written.
  -- Memory was refused, of which nothing is stated here; or the input was cut off, and what was
  -- written had been passed on; or the sink stopped after a front of what is written for the next
  -- record.
  abbrev pub IsStopped : Fault → Type 0
  IsStopped NoMemory = AreBegun taken failed flush_gives records road (left old_in) old new
      × (in_failed new_in ≡ in_failed old_in)
  IsStopped InputNotRead =
      (begun : AreBegun taken failed flush_gives records road (left old_in) old new)
      × IsInputCut begun.done begun.left × HasPassedOn flush_gives new
  IsStopped WriteFailed = (at : O) × (output : List ℕ)
      × (begun : AreBegun taken failed flush_gives records road (left old_in) old at)
      × IsNextOutput taken failed flush_gives records road begun output
      × HasStopped taken failed put_gives flush_gives output at new
      × (in_failed new_in ≡ in_failed old_in)
  IsStopped other = ⊥

-- ---- the whole run

-- The run ended with a fault of the map, and then the input and the sink weren't touched.
pub record IsMapFault {S O : Type 0} (texts : Texts) (old_in new_in : S) (old new : O)
    (fault : Fault) : Type 0 where
  pub why : MapFault
  pub is : fault ≡ fault_of_map why
  pub of_files : IsFaultLeft texts why
  pub input_is : new_in ≡ old_in
  pub sink_is : new ≡ old
