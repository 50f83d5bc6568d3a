-- What reading a map from the sources of its files gives, and what becomes of each source.
use Rattle.std.specs.Prelude.{◌≡◌, ℕ, ⊤, ◌⊎◌, List, [], Option, Some, None, IfSome, Result, Ok, Err}
use Rattle.olr_base.specs.Counting.{one_more}
use Rattle.olr_records.specs.declared.file.File.{File}
use Rattle.olr_records.specs.declared.file.File.TheVariants.{Nodes, Lines, Bans}
use Rattle.olr_map.specs.declared.fault.MapFault.{MapFault}
use Rattle.olr_map.specs.declared.fault.MapFault.TheVariants as fault
use Rattle.olr_road.specs.RoadMap.{Node, RoadLine}
use Rattle.olr_road.specs.RoadMap.{RoadMap, AreSoundNodes, AreSoundLines, IsSoundMap}
use Rattle.olr_map.specs.Tables.{IsNodesFault, IsNodeSet, IsLinesFault, IsLineSet, IsBansFault, IsBanSet}

-- ---- the texts

-- The texts of a map's files: for each file the bytes that its source has left, where the source
-- makes them known.
pub record Texts : Type 0 where
  pub nodes : Option (List ℕ)
  pub lines : Option (List ℕ)
  pub bans : Option (List ℕ)

-- the texts, file by file
abbrev pub texts_of : Option (List ℕ) → Option (List ℕ) → Option (List ℕ) → Texts
texts_of nodes_left lines_left bans_left =
    record { nodes = nodes_left; lines = lines_left; bans = bans_left }

-- texts of which each is known
abbrev pub known : List ℕ → List ℕ → List ℕ → Texts
known nodes_text lines_text bans_text =
    texts_of (Some nodes_text) (Some lines_text) (Some bans_text)

-- ---- the map

-- The map of the texts. It is sound whatever is known of them; its nodes are those of the text of
-- nodes, if that is known, its lines are those of the text of lines, and its bans are those of the
-- text of bans, if that is known.
pub record IsMapLeft (texts : Texts) (road : RoadMap) : Type 0 where
  pub sound : IsSoundMap road
  pub nodes : IfSome texts.nodes (λ text. IsNodeSet text road.nodes)
  pub lines : IfSome texts.lines (λ text. IsLineSet road.nodes text road.lines)
  pub bans : IfSome texts.bans (λ text. IsBanSet road.lines text road.bans)

-- the map of three texts
abbrev pub IsMapOf : List ℕ → List ℕ → List ℕ → RoadMap → Type 0
IsMapOf nodes_text lines_text bans_text road =
    IsMapLeft (known nodes_text lines_text bans_text) road

-- ---- the fault

-- the file that a fault is of; a want of memory is of no file
abbrev pub file_of : MapFault → Option File
file_of (fault.Header file) = Some file
file_of (fault.Shape file n) = Some file
file_of (fault.Field file n column) = Some file
file_of (fault.Duplicate file n) = Some file
file_of (fault.UnknownNode n) = Some Lines
file_of (fault.ZeroLength n) = Some Lines
file_of (fault.Degenerate n) = Some Lines
file_of (fault.UnknownLine n) = Some Bans
file_of (fault.NotAdjacent n) = Some Bans
file_of (fault.TooMany file) = Some file
file_of (fault.ReadFailed file) = Some file
file_of fault.NoMemory = None

-- a fault that lies in the text of a file: no source failed, and no memory was refused
abbrev pub IsOfText : MapFault → Type 0
IsOfText (fault.ReadFailed file) = ⊥
IsOfText fault.NoMemory = ⊥
IsOfText other = ⊤

-- A fault that lies in a text is the one that the text has, if it is known. A source that failed
-- gave no whole text.
abbrev pub IsFaultWithin : (List ℕ → MapFault → Type 0) → Option (List ℕ) → MapFault → Type 0
IsFaultWithin IsFault text (fault.ReadFailed file) = ⊤
IsFaultWithin IsFault text fault.NoMemory = ⊤
IsFaultWithin IsFault text other = IfSome text (λ known_text. IsFault known_text other)

-- The nodes of the text of nodes are accepted: these, by rising id.
pub record AreAccepted (nodes_text : Option (List ℕ)) (nodes : List Node) : Type 0 where
  pub sound : AreSoundNodes nodes
  pub text : IfSome nodes_text (λ text. IsNodeSet text nodes)

-- The lines of the text of lines are accepted, too: these, by rising id, on these nodes.
pub record AreLinesAccepted (nodes_text lines_text : Option (List ℕ)) (nodes : List Node)
    (lines : List RoadLine) : Type 0 where
  pub nodes_accepted : AreAccepted nodes_text nodes
  pub sound : AreSoundLines nodes lines
  pub text : IfSome lines_text (λ text. IsLineSet nodes text lines)

-- the fault of the file of lines, to which only nodes that are accepted lead
pub record IsFaultOfLines (texts : Texts) (why : MapFault) : Type 0 where
  pub nodes : List Node
  pub accepted : AreAccepted texts.nodes nodes
  pub text : IsFaultWithin (IsLinesFault nodes) texts.lines why

-- the fault of the file of bans, to which only lines that are accepted lead
pub record IsFaultOfBans (texts : Texts) (why : MapFault) : Type 0 where
  pub nodes : List Node
  pub lines : List RoadLine
  pub accepted : AreLinesAccepted texts.nodes texts.lines nodes lines
  pub text : IsFaultWithin (IsBansFault lines) texts.bans why

-- the fault of a file, all files before it being accepted
abbrev pub IsFaultIn : Option File → Texts → MapFault → Type 0
IsFaultIn None texts why = ⊤
IsFaultIn (Some Nodes) texts why = IsFaultWithin IsNodesFault texts.nodes why
IsFaultIn (Some Lines) texts why = IsFaultOfLines texts why
IsFaultIn (Some Bans) texts why = IsFaultOfBans texts why

-- The fault for which there is no map of the texts, or for which the reading of the files ended.
-- Nothing is said here of a want of memory, which is of no text.
abbrev pub IsFaultLeft : Texts → MapFault → Type 0
IsFaultLeft texts why = IsFaultIn (file_of why) texts why

-- the fault of three texts
abbrev pub IsFaultOf : List ℕ → List ℕ → List ℕ → MapFault → Type 0
IsFaultOf nodes_text lines_text bans_text why = IsOfText why
    × IsFaultLeft (known nodes_text lines_text bans_text) why

-- Three texts have a map or a fault: it can't be that they have neither.
abbrev pub HasOutcome : List ℕ → List ℕ → List ℕ → Type 0
HasOutcome nodes_text lines_text bans_text =
    ((road : RoadMap) → IsMapOf nodes_text lines_text bans_text road → ⊥)
    → ((why : MapFault) → IsFaultOf nodes_text lines_text bans_text why → ⊥) → ⊥

-- ---- what becomes of the source of a file

module _ {S : Type 0} (left : S → Option (List ℕ)) (failed : S → ℕ) (old new : S) where
  -- it was read to its end: no call of it failed, and nothing is left, if it is known what was
  pub record IsReadWhole : Type 0 where
    pub none_failed : failed new ≡ failed old
    pub over : IfSome (left old) (λ _. left new ≡ Some [])

  -- A fault ended the reading at the source: a call of it failed, the only one that did; or it was
  -- read to its end.
  abbrev pub HasEnded : MapFault → Type 0
  HasEnded (fault.ReadFailed file) = failed new ≡ one_more (failed old)
  HasEnded other = IsReadWhole

  -- What became of the source of the first file, where a fault of the second one ended the reading.
  -- All files before that of the fault were read to their ends, and no call was made of the sources
  -- of those behind it. Memory may have been refused at any file, and then no call failed.
  abbrev pub IsEffectAt : File → Option File → MapFault → Type 0
  IsEffectAt Nodes (Some Nodes) why = HasEnded why
  IsEffectAt Nodes (Some later) why = IsReadWhole
  IsEffectAt Lines (Some Nodes) why = new ≡ old
  IsEffectAt Lines (Some Lines) why = HasEnded why
  IsEffectAt Lines (Some Bans) why = IsReadWhole
  IsEffectAt Bans (Some Bans) why = HasEnded why
  IsEffectAt Bans (Some earlier) why = new ≡ old
  IsEffectAt file None why = failed new ≡ failed old

  -- what became of the source of a file, where a fault ended the reading
  abbrev pub IsEffect : File → MapFault → Type 0
  IsEffect file why = IsEffectAt file (file_of why) why

  -- what became of the source of a file: on Ok it was read to its end
  abbrev pub LeavesSource : {T : Type 0} → File → Result T MapFault → Type 0
  LeavesSource file (Ok map) = IsReadWhole
  LeavesSource file (Err why) = IsEffect file why

-- ---- the order of the files

-- Of two files of which one follows the other, the second is left alone until the first one is
-- read, whatever the result: the source of the second is as it was, or that of the first was read
-- to its end. For a want of memory, which is of no file, nothing else says so.
abbrev pub IsReadInOrder : {S1 S2 : Type 0} → (S1 → Option (List ℕ)) → (S1 → ℕ) → S1 → S1 → S2 → S2
    → Type 0
IsReadInOrder left failed first_old first_new second_old second_new = second_new ≡ second_old
    ⊎ IsReadWhole left failed first_old first_new
