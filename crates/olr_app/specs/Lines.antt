-- The lines of a map that meet a box: their output, and what a run writes of it.
use Rattle.std.specs.Prelude.{◌≡◌, ℕ, Bool, List, Option, Result}
use Rattle.std.specs.Io.KnownBytes.{Appends}
use Rattle.olr_app.specs.Common.{Failed, IsJsonLine, MapFault, RoadMap}
use Rattle.olr_app.specs.Writing.{HasStopped, IsWritten}
use Rattle.olr_lines.specs.GeoJson.{lines_collection}
use Rattle.olr_lines.specs.Json.{lines_object}
use Rattle.olr_lines.specs.LinesInBox.{AreFirst, lines_meeting}
use Rattle.olr_lines.specs.declared.lines.LinesInBox.{LinesInBox}
use Rattle.olr_map.specs.Files.{IsFaultLeft, Texts}
use Rattle.olr_request.specs.Fault.{fault_of_map}
use Rattle.olr_request.specs.declared.fault.Fault.{Fault}
use Rattle.olr_request.specs.declared.fault.Fault.TheVariants.{NoMemory, WriteFailed}
use Rattle.olr_request.specs.declared.request.Format.{Format}
use Rattle.olr_request.specs.declared.request.Format.TheVariants.{GeoJson}
use Rattle.olr_request.specs.declared.request.LinesRequest.{LinesRequest}

-- lines in a format, with their points where shapes are asked for: as GeoJSON, or else as JSON
abbrev pub AreLinesIn : Format → Bool → RoadMap → LinesInBox → List ℕ → Type 0
AreLinesIn GeoJson shapes road found text = text ≡ lines_collection road shapes found
AreLinesIn other shapes road found text = IsJsonLine (lines_object road shapes found) text

-- the lines of a map that a request asks for: the first of those that meet its box, by id
pub record AreLinesPrinted (asked : LinesRequest) (road : RoadMap) (output : List ℕ) : Type 0 where
  pub found : LinesInBox
  pub are_first : AreFirst asked.most (lines_meeting road.lines asked.within) found
  pub printed : AreLinesIn asked.format asked.shape road found output

-- a run ended with a fault of the files of the map, and then the sink wasn't touched
pub record IsMapFault {O : Type 0} (texts : Texts) (old new : O) (fault : Fault) : Type 0 where
  pub why : MapFault
  pub is : fault ≡ fault_of_map why
  pub of_files : IsFaultLeft texts why
  pub sink_is : new ≡ old

module _ {O : Type 0} (taken : O → Option (List ℕ)) (failed : O → ℕ)
    (put_gives : O → List ℕ → Result ℕ Failed → O → Type 0)
    (flush_gives : O → Result (Unit {0}) Failed → O → Type 0) (asked : LinesRequest)
    (road : RoadMap) (old new : O) where
  -- The sink took the whole output, and nothing else, and no call on it failed. The calls were those
  -- that handed the output over, and then exactly one that passed it on.
  pub record AreLinesWritten : Type 0 where
    pub output : List ℕ
    pub are_printed : AreLinesPrinted asked road output
    pub took : Appends (taken old) (taken new) output
    pub written : IsWritten put_gives flush_gives output old new
    pub none_failed : failed new ≡ failed old

  -- Why they weren't written, or not wholly: memory was refused, and no call of the sink was made; or
  -- the sink stopped after a front of the output.
  abbrev pub AreLinesStopped : Fault → Type 0
  AreLinesStopped NoMemory = new ≡ old
  AreLinesStopped WriteFailed = (output : List ℕ) × AreLinesPrinted asked road output
      × HasStopped taken failed put_gives flush_gives output old new
  AreLinesStopped other = ⊥
