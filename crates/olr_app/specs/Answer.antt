-- The answer of a request: what is written for it, or the fault that comes in place of that.
use Rattle.std.specs.Prelude.{◌≡◌, ℕ, ◌⊎◌, Bool, true, false, List, Option, Result, Ok, Err}
use Rattle.std.specs.Io.KnownBytes.{Appends}
use Rattle.olr_app.specs.Common.{Failed, Reference, RoadMap, MapFault}
use Rattle.olr_binary.specs.Json.{IsReferenceJson}
use Rattle.olr_binary.specs.Show.{reference_text}
use Rattle.olr_map.specs.Files.{IsFaultLeft, IsMapLeft, IsOfText, Texts}
use Rattle.olr_map.specs.declared.fault.MapFault.TheVariants as map
use Rattle.olr_app.specs.Accepting.{Accepts, IsAccepted}
use Rattle.olr_request.specs.Fault.{fault_of_map}
use Rattle.olr_app.specs.Listing.{IsListed}
use Rattle.olr_app.specs.Matching.{AreMatchings}
use Rattle.olr_app.specs.Places.{ArePlaces}
use Rattle.olr_request.specs.Request.{ReadsMap}
use Rattle.olr_app.specs.Stages.{AndThen, NoFault}
use Rattle.olr_app.specs.Why.{AreReasons}
use Rattle.olr_app.specs.Writing.{HasStopped, IsWritten}
use Rattle.olr_app.specs.declared.accepting.Accepted.{Accepted}
use Rattle.olr_request.specs.declared.fault.Fault.{Fault}
use Rattle.olr_request.specs.declared.fault.Fault.TheVariants.{AfterWithAll, BadBox, BadNear, BadNearest, BadNumber, BadPage, BadTolerance}
use Rattle.olr_request.specs.declared.fault.Fault.TheVariants.{ConfidenceNotOpened, ConfidenceNotRead, InputNotOpened, InputNotRead}
use Rattle.olr_request.specs.declared.fault.Fault.TheVariants.{NoMemory, OpenFailed, ReadFailed}
use Rattle.olr_request.specs.declared.fault.Fault.TheVariants.{WriteFailed}
use Rattle.olr_request.specs.declared.request.Format.{Format}
use Rattle.olr_request.specs.declared.request.Format.TheVariants.{Text}
use Rattle.olr_request.specs.declared.request.Request.{Request}
use Rattle.olr_request.specs.declared.request.Request.TheVariants.{Candidates, Match, Places, Show, Why}

-- ---- the stages of an answer

-- the text of a reference in a format: JSON where JSON or GeoJSON is asked for
abbrev pub IsReferenceIn : Format → Reference → List ℕ → Type 0
IsReferenceIn Text reference text = text ≡ reference_text reference
IsReferenceIn other reference text = IsReferenceJson reference text

-- the same as a stage, which has no fault
abbrev pub IsShown : Format → Reference → Result (List ℕ) Fault → Type 0
IsShown format reference = NoFault (IsReferenceIn format reference)

-- The answer on a map, with marks in the cursors at the ends of pages or without. That of `Show` is
-- the same on each map.
abbrev pub IsAnswerOn : Bool → Request → Accepted → RoadMap → Result (List ℕ) Fault → Type 0
IsAnswerOn marks (Show text format) accepted road answer = IsShown format accepted.reference answer
IsAnswerOn marks (Candidates text tolerances extras format) accepted road answer =
    IsListed extras format tolerances accepted.reference road answer
IsAnswerOn marks (Match asked) accepted road answer = AreMatchings marks asked accepted road answer
IsAnswerOn marks (Places asked) accepted road answer =
    ArePlaces asked accepted.reference road answer
IsAnswerOn marks (Why asked) accepted road answer =
    AreReasons asked.format asked.shape asked.tolerances asked.nearest accepted.reference road
    answer

-- The answer of a request on a map that was read before, with marks or without: the bytes of its
-- output, or the fault of the first stage that has one, which is the refusal of its own texts or
-- that of a stage on the map.
abbrev pub IsAnswerOnMap : Bool → RoadMap → Request → Result (List ℕ) Fault → Type 0
IsAnswerOnMap marks road request =
    AndThen (Accepts request) (λ (accepted : Accepted). IsAnswerOn marks request accepted road)

-- The fault that comes in place of that answer: the one of the texts; or memory was refused, which
-- befalls a request that is accepted alone.
abbrev pub IsFaultOnMap : Bool → RoadMap → Request → Fault → Type 0
IsFaultOnMap marks road request fault = IsAnswerOnMap marks road request (Err fault)
    ⊎ ((fault ≡ NoMemory) × IsAccepted request)

-- The answer of one of many requests on a map that was read for all of them: that without marks. (A
-- mark names the whole map, and so takes time in proportion to it.)
abbrev pub IsAnswerOfMany : RoadMap → Request → Result (List ℕ) Fault → Type 0
IsAnswerOfMany = IsAnswerOnMap false

-- the fault that comes in place of that answer
abbrev pub IsFaultOfMany : RoadMap → Request → Fault → Type 0
IsFaultOfMany = IsFaultOnMap false

module _ (texts : Texts) where
  -- the map of the files, or the fault that lies in their texts
  abbrev pub IsMapOfFiles : Result RoadMap Fault → Type 0
  IsMapOfFiles (Ok road) = IsMapLeft texts road
  IsMapOfFiles (Err fault) =
      (why : MapFault) × IsOfText why × IsFaultLeft texts why × (fault ≡ fault_of_map why)

  -- the answer of a request that is accepted; that of `Show` depends on no file
  abbrev pub IsAnswerOf : Request → Accepted → Result (List ℕ) Fault → Type 0
  IsAnswerOf (Show text format) accepted answer = IsShown format accepted.reference answer
  IsAnswerOf request accepted answer =
      AndThen IsMapOfFiles (IsAnswerOn true request accepted) answer

  -- The answer of a request by the texts alone, its own and those of the files of a map: the bytes
  -- of the output, or the fault of the first stage that has one.
  abbrev pub IsAnswer : Request → Result (List ℕ) Fault → Type 0
  IsAnswer request = AndThen (Accepts request) (IsAnswerOf request)

  -- the bytes that answer a request
  abbrev pub IsOutput : Request → List ℕ → Type 0
  IsOutput request output = IsAnswer request (Ok output)

  -- Why there is no output. Memory was refused, or a source failed, for a request that is accepted;
  -- the source of a file only where the files before it are accepted, too. Or the fault is the
  -- answer by the texts alone.
  abbrev pub IsReason : Request → Fault → Type 0
  IsReason request NoMemory = IsAccepted request
  IsReason request (ReadFailed file) =
      ReadsMap request × IsAccepted request × IsFaultLeft texts (map.ReadFailed file)
  IsReason request (OpenFailed file) = ⊥
  IsReason request ConfidenceNotOpened = ⊥
  IsReason request ConfidenceNotRead = ⊥
  IsReason request InputNotOpened = ⊥
  IsReason request InputNotRead = ⊥
  IsReason request (BadTolerance name) = ⊥
  IsReason request (BadNumber number) = ⊥
  IsReason request BadNear = ⊥
  IsReason request BadBox = ⊥
  IsReason request BadNearest = ⊥
  IsReason request (BadPage size) = ⊥
  IsReason request AfterWithAll = ⊥
  IsReason request WriteFailed = ⊥
  IsReason request fault = IsAnswer request (Err fault)

-- ---- the sink

module _ {O : Type 0} (taken : O → Option (List ℕ)) (failed : O → ℕ)
    (put_gives : O → List ℕ → Result ℕ Failed → O → Type 0)
    (flush_gives : O → Result (Unit {0}) Failed → O → Type 0) (texts : Texts) where
  -- What a fault means: the sink stopped after a front of the output; or there is no output, for
  -- this reason, and no call of the sink was made.
  abbrev pub IsFault : Request → O → O → Fault → Type 0
  IsFault request old new WriteFailed =
      (output : List ℕ) × IsOutput texts request output
      × HasStopped taken failed put_gives flush_gives output old new
  IsFault request old new fault = IsReason texts request fault × (new ≡ old)

  -- The sink took the whole output, and nothing else, and no call on it failed. The calls were
  -- those that handed the output over, and then exactly one that passed it on.
  pub record IsAnswered (request : Request) (old new : O) : Type 0 where
    pub output : List ℕ
    pub is_output : IsOutput texts request output
    pub took : Appends (taken old) (taken new) output
    pub written : IsWritten put_gives flush_gives output old new
    pub none_failed : failed new ≡ failed old
