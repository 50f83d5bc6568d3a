-- The faults of the program, and the line of text for each of them.
use Rattle.std.specs.Prelude.{ℕ, List, ◌++◌, codes, decimal}
use Rattle.olr_request.specs.declared.fault.Fault.{Fault}
use Rattle.olr_request.specs.declared.fault.Fault.TheVariants as fault
use Rattle.olr_binary.specs.declared.refusal.Refused.{Refused}
use Rattle.olr_map.specs.declared.fault.MapFault.{MapFault}
use Rattle.olr_records.specs.declared.file.File.{File}
use Rattle.olr_binary.specs.declared.refusal.Refused.TheVariants as refused
use Rattle.olr_binary.specs.declared.refusal.Kind.TheVariants.{Area, GeoCoordinate}
use Rattle.olr_candidates.specs.Tolerances.{tolerance_name}
use Rattle.olr_candidates.specs.declared.fault.LayersFault.{LayersFault}
use Rattle.olr_records.specs.declared.file.File.TheVariants.{Nodes, Lines, Bans}
use Rattle.olr_map.specs.declared.fault.MapFault.TheVariants as map
use Rattle.olr_candidates.specs.declared.fault.LayersFault.TheVariants as layers
use Rattle.olr_keys.specs.declared.pages.PageFault.{PageFault}
use Rattle.olr_keys.specs.declared.pages.PageFault.TheVariants as page
use Rattle.olr_places.specs.declared.limits.PlaceLimit.{PlaceLimit}
use Rattle.olr_places.specs.declared.limits.PlaceLimit.TheVariants.{Apart, Look, Most, Within}

-- the fault of a text that is refused
abbrev pub fault_of : Refused → Fault
fault_of refused.TooLong = fault.TooLong
fault_of refused.NotBase64 = fault.NotBase64
fault_of refused.Empty = fault.Empty
fault_of (refused.BadVersion version) = fault.BadVersion version
fault_of (refused.OtherKind kind) = fault.OtherKind kind
fault_of refused.PoiWithAccess = fault.PoiWithAccess
fault_of (refused.BadLength size) = fault.BadLength size
fault_of (refused.TooManyPoints count) = fault.TooManyPoints count
fault_of refused.OffsetFlags = fault.OffsetFlags
fault_of (refused.OutOfRange point) = fault.OutOfRange point

-- the fault of files that have no map, or whose reading was cut short
abbrev pub fault_of_map : MapFault → Fault
fault_of_map (map.Header file) = fault.Header file
fault_of_map (map.Shape file n) = fault.Shape file n
fault_of_map (map.Field file n column) = fault.Field file n column
fault_of_map (map.Duplicate file n) = fault.Duplicate file n
fault_of_map (map.UnknownNode n) = fault.UnknownNode n
fault_of_map (map.ZeroLength n) = fault.ZeroLength n
fault_of_map (map.Degenerate n) = fault.Degenerate n
fault_of_map (map.UnknownLine n) = fault.UnknownLine n
fault_of_map (map.NotAdjacent n) = fault.NotAdjacent n
fault_of_map (map.TooMany file) = fault.TooMany file
fault_of_map (map.ReadFailed file) = fault.ReadFailed file
fault_of_map map.NoMemory = fault.NoMemory

-- the fault of candidates or layers: a point has too many candidates, or there was no memory
abbrev pub fault_of_layers : LayersFault → Fault
fault_of_layers (layers.TooManyCandidates number) = fault.TooManyCandidates number
fault_of_layers layers.NoMemory = fault.NoMemory

-- the fault of a page that isn't there, or that found no memory
abbrev pub fault_of_page : PageFault → Fault
fault_of_page page.CursorNotHere = fault.CursorNotHere
fault_of_page page.NoMemory = fault.NoMemory

-- the name of a file
abbrev pub file_name : File → List ℕ
file_name Nodes = codes "nodes"
file_name Lines = codes "lines"
file_name Bans = codes "bans"

-- the name of a number for places
abbrev pub number_name : PlaceLimit → List ℕ
number_name Apart = codes "apart"
number_name Within = codes "within"
number_name Look = codes "look"
number_name Most = codes "most"

-- the name of a fault, and its details
abbrev pub fault_text : Fault → List ℕ
fault_text fault.TooLong = codes "TooLong"
fault_text fault.NotBase64 = codes "NotBase64"
fault_text fault.Empty = codes "Empty"
fault_text (fault.BadVersion version) = codes "BadVersion " ++ decimal version
fault_text (fault.OtherKind Area) = codes "OtherKind Area"
fault_text (fault.OtherKind GeoCoordinate) = codes "OtherKind GeoCoordinate"
fault_text fault.PoiWithAccess = codes "PoiWithAccess"
fault_text (fault.BadLength size) = codes "BadLength " ++ decimal size
fault_text (fault.TooManyPoints count) = codes "TooManyPoints " ++ decimal count
fault_text fault.OffsetFlags = codes "OffsetFlags"
fault_text (fault.OutOfRange point) = codes "OutOfRange " ++ decimal point
fault_text (fault.Header file) = codes "Header " ++ file_name file
fault_text (fault.Shape file n) = codes "Shape " ++ file_name file ++ codes " " ++ decimal n
fault_text (fault.Field file n column) =
    codes "Field " ++ file_name file ++ codes " " ++ decimal n ++ codes " " ++ decimal column
fault_text (fault.Duplicate file n) = codes "Duplicate " ++ file_name file ++ codes " " ++ decimal n
fault_text (fault.UnknownNode n) = codes "UnknownNode " ++ decimal n
fault_text (fault.ZeroLength n) = codes "ZeroLength " ++ decimal n
fault_text (fault.Degenerate n) = codes "Degenerate " ++ decimal n
fault_text (fault.UnknownLine n) = codes "UnknownLine " ++ decimal n
fault_text (fault.NotAdjacent n) = codes "NotAdjacent " ++ decimal n
fault_text (fault.TooMany file) = codes "TooMany " ++ file_name file
fault_text fault.BadConfidence = codes "BadConfidence"
fault_text (fault.TooManyCandidates number) = codes "TooManyCandidates " ++ decimal number
fault_text (fault.BadTolerance name) = codes "BadTolerance " ++ tolerance_name name
fault_text (fault.BadNumber number) = codes "BadNumber " ++ number_name number
fault_text fault.BadNear = codes "BadNumber near"
fault_text fault.BadBox = codes "BadNumber box"
fault_text fault.BadNearest = codes "BadNumber nearest"
fault_text (fault.BadPage size) = codes "BadPage " ++ decimal size
fault_text fault.AfterWithAll = codes "AfterWithAll"
fault_text fault.BadCursor = codes "BadCursor"
fault_text fault.CursorOfOther = codes "CursorOfOther"
fault_text fault.CursorNotHere = codes "CursorNotHere"
fault_text (fault.OpenFailed file) = codes "OpenFailed " ++ file_name file
fault_text (fault.ReadFailed file) = codes "ReadFailed " ++ file_name file
fault_text fault.ConfidenceNotOpened = codes "OpenFailed confidence"
fault_text fault.ConfidenceNotRead = codes "ReadFailed confidence"
fault_text fault.InputNotOpened = codes "OpenFailed input"
fault_text fault.InputNotRead = codes "ReadFailed input"
fault_text fault.NoMemory = codes "NoMemory"
fault_text fault.WriteFailed = codes "WriteFailed"
