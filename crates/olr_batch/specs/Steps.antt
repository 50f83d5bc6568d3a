-- One step of the run: what is written for the next record of an input, or why that stopped.
use Rattle.std.specs.Prelude.{◌≡◌, ℕ, ◌⊎◌, List, [], Contains, Bool, true, false, Option, Result, Ok}
use Rattle.std.specs.Io.KnownBytes.{Appends}
use Rattle.olr_base.specs.declared.failure.Failed.{Failed}
use Rattle.olr_road.specs.RoadMap.{RoadMap}
use Rattle.olr_messages.specs.Content.{IsMessageOfLine, Message}
use Rattle.olr_messages.specs.Messages.{IsCutOff, IsNext, IsOver}
use Rattle.olr_app.specs.Writing.{HasStopped}
use Rattle.olr_request.specs.declared.fault.Fault.{Fault}
use Rattle.olr_request.specs.declared.fault.Fault.TheVariants.{InputNotRead, NoMemory, WriteFailed}
use Rattle.olr_batch.specs.Records.{IsWrittenFor}
use Rattle.olr_words.specs.declared.asked.Records.{Records}

module _ {O : Type 0} (flush_gives : O → Result (Unit {0}) Failed → O → Type 0) where
  -- the last call on the sink passed on what it had taken
  abbrev pub HasPassedOn : O → Type 0
  HasPassedOn sink = (before : O) × flush_gives before (Ok tt) sink

  -- The input may be asked for more, by these bytes at hand: the line of the next record is among
  -- them as a whole, and then it isn't asked; or what the sink took is passed on.
  abbrev pub MayAsk : List ℕ → O → Type 0
  MayAsk at_hand sink = Contains at_hand 10 ⊎ HasPassedOn sink

module _ {O : Type 0} (taken : O → Option (List ℕ)) (failed : O → ℕ)
    (flush_gives : O → Result (Unit {0}) Failed → O → Type 0) where
  -- the sink took no byte, and no call on it failed
  pub record IsSame (old new : O) : Type 0 where
    pub kept : Appends (taken old) (taken new) []
    pub none_failed : failed new ≡ failed old

  -- Where a whole record is at hand, no call was made on the sink; else one that passed on what it
  -- had taken.
  abbrev pub IsPassedOn : Bool → O → O → Type 0
  IsPassedOn true old new = new ≡ old
  IsPassedOn false old new = IsSame old new × flush_gives old (Ok tt) new

  -- There is no further record, by what was left of the input and what is left, and what the sink
  -- had taken was passed on.
  pub record IsLast (left_old left_new : Option (List ℕ)) (old new : O) : Type 0 where
    pub over : IsOver left_old left_new
    pub same : IsSame old new
    pub before_last : O
    pub flushed : flush_gives before_last (Ok tt) new

-- this is written for the next record, of this number: the next line of what was left of an input
pub record IsOutputOfNext (records : Records) (road : RoadMap) (number : ℕ)
    (left_old left_new : Option (List ℕ)) (output : List ℕ) : Type 0 where
  pub line : List ℕ
  pub said : Message
  pub is_next : IsNext line left_old left_new
  pub says : IsMessageOfLine line said
  pub written : IsWrittenFor records road number said output

module _ {O : Type 0} (taken : O → Option (List ℕ)) (failed : O → ℕ) (records : Records)
    (road : RoadMap) (number : ℕ) (left_old left_new : Option (List ℕ)) (old new : O) where
  -- the sink took what is written for the next record
  pub record IsWrittenNext : Type 0 where
    pub output : List ℕ
    pub of_next : IsOutputOfNext records road number left_old left_new output
    pub took : Appends (taken old) (taken new) output
    pub none_failed : failed new ≡ failed old

module _ {O : Type 0} (taken : O → Option (List ℕ)) (failed : O → ℕ)
    (put_gives : O → List ℕ → Result ℕ Failed → O → Type 0)
    (flush_gives : O → Result (Unit {0}) Failed → O → Type 0) (records : Records)
    (road : RoadMap) (number : ℕ) (left_old left_new : Option (List ℕ)) (at_hand : List ℕ)
    (old_failed new_failed : ℕ) (old new : O) where
  -- Why the next record wasn't answered, or not wholly written: memory was refused; or the input
  -- was cut off, what the sink took having been passed on, and no byte is at hand; or the sink
  -- stopped, in what is written for this record or before it.
  abbrev pub IsStepStopped : Fault → Type 0
  IsStepStopped NoMemory = IsSame taken failed flush_gives old new × (new_failed ≡ old_failed)
  IsStepStopped InputNotRead = IsSame taken failed flush_gives old new × HasPassedOn flush_gives new
      × (at_hand ≡ []) × IsCutOff left_old left_new at_hand old_failed new_failed
  IsStepStopped WriteFailed = (at : O) × (output : List ℕ) × IsSame taken failed flush_gives old at
      × ((output ≡ []) ⊎ IsOutputOfNext records road number left_old left_new output)
      × HasStopped taken failed put_gives flush_gives output at new × (new_failed ≡ old_failed)
  IsStepStopped other = ⊥
