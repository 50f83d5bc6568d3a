-- A fault that a reader found is the fault of its file, and a map that it made is that of the
-- texts.
use Rattle.olr_base.specs.Counting.{one_more}
use Rattle.olr_map.proofs.Common.{arith, MapFault, Node, RoadLine, Reports, Table, IsFaultOfTable, IsSettled, RoadMap, lines_table, bans_table, IsNodeSet, IsLinesFault, IsLineSet, IsBansFault, IsBanSet, AreSoundBans, rules, ◌≡◌, ℕ, List, Option, Some, None, refl, inl, inr, ◌⊎◌, IfSome, Lines, Bans, IsReadFault, HasText, FaultOfFile, not_read, of_text, Texts, file_of, IsFaultWithin, AreAccepted, AreLinesAccepted, IsMapLeft, IsFaultLeft, texts_of}
use Rattle.olr_map.specs.declared.fault.MapFault.TheVariants as fault
use Rattle.olr_map.proofs.Checked.{of_file}
use Rattle.olr_map.proofs.LineFaults.{lines_settled}
use Rattle.olr_map.proofs.BanFaults.{bans_settled}
use Rattle.olr_map.proofs.Soundness.{nodes_are_sound, lines_are_sound}

-- ---- what a reader reports

-- memory was refused, or it is a fault of the text
reports_cases : (Is : MapFault → Type 0) (why : MapFault) → Reports Is why → (why ≡ fault.NoMemory)
    ⊎ Is why
reports_cases Is fault.NoMemory reports = inl refl
reports_cases Is (fault.ReadFailed file) reports = absurd reports
reports_cases Is other reports = inr reports

-- memory was refused, or the source failed
read_cases : {failed : MapFault} {old new : ℕ} (why : MapFault) → IsReadFault failed old new why
    → ((why ≡ fault.NoMemory) × (new ≡ old)) ⊎ ((why ≡ failed) × (new ≡ one_more old))
read_cases fault.NoMemory is = inl (refl, is)
read_cases other is = inr is

-- what holds of a text holds of the bytes that are known
pub known_left : (P : List ℕ → Type 0) (left : Option (List ℕ)) {text : List ℕ}
    → IfSome left (λ given. text ≡ given) → P text → IfSome left P
known_left P None same is = tt
known_left P (Some given) same is = rw (← same) is

pub fault_within : (IsFault : List ℕ → MapFault → Type 0) (left : Option (List ℕ)) {text : List ℕ}
    (why : MapFault) → IfSome left (λ given. text ≡ given) → IsFault text why
    → IsFaultWithin IsFault left why
fault_within IsFault left (fault.ReadFailed file) same is = tt
fault_within IsFault left fault.NoMemory same is = tt
fault_within IsFault left other same is = known_left _ _ same is

-- the fault of a file is a want of memory, or lies in the file
found : {Row S : Type 0} (table : Table Row) → IsSettled table → (left : S → Option (List ℕ))
    (failed : S → ℕ) (old new : S) (why : MapFault)
    → FaultOfFile left failed old new table.file (IsFaultOfTable table) why
    → (why ≡ fault.NoMemory) ⊎ ((file_of why ≡ Some table.file)
    × IsFaultWithin (IsFaultOfTable table) (left old) why)
found table settled left failed old new why (not_read is) = grind (arith, read_cases)
found table settled left failed old new why (of_text whole has) =
    elim (reports_cases (IsFaultOfTable table has.0) _ has.2) [
      | inl none ↦ inl none
      | inr is ↦ inr (
        (of_file settled has.0 is).1,
        fault_within (IsFaultOfTable table) _ _ has.1 is,
      )
    ]

-- ---- what was read

accepted : {nodes_left : Option (List ℕ)} {nodes : List Node}
    → HasText nodes_left (λ text. IsNodeSet text nodes) → AreAccepted nodes_left nodes
accepted set = record { sound = nodes_are_sound set.2; text = known_left _ _ set.1 set.2 }

pub lines_accepted : {nodes_left lines_left : Option (List ℕ)} {nodes : List Node}
    {lines : List RoadLine} → HasText nodes_left (λ text. IsNodeSet text nodes)
    → HasText lines_left (λ text. IsLineSet nodes text lines)
    → AreLinesAccepted nodes_left lines_left nodes lines
lines_accepted set is = record {
  nodes_accepted = accepted set;
  sound = lines_are_sound (nodes_are_sound set.2) is.2;
  text = known_left _ _ is.1 is.2;
}

-- the map that was made of the nodes and lines that were read, and of bans
pub map_reported : {texts : Texts} {road : RoadMap}
    → AreLinesAccepted texts.nodes texts.lines road.nodes road.lines
    → AreSoundBans road.lines road.bans
    → IfSome texts.bans (λ text. IsBanSet road.lines text road.bans) → IsMapLeft texts road
map_reported all sound bans = search rules

-- ---- the fault of a file, as its reader reports it

module _ {S : Type 0} (left : S → Option (List ℕ)) (failed : S → ℕ) (old new : S) where
  pub lines_fault : (nodes_left bans_left : Option (List ℕ)) (nodes : List Node) (why : MapFault)
      → HasText nodes_left (λ text. IsNodeSet text nodes)
      → FaultOfFile left failed old new Lines (IsLinesFault nodes) why
      → IsFaultLeft (texts_of nodes_left (left old) bans_left) why
  lines_fault nodes_left bans_left nodes why set its =
      elim (found (lines_table nodes) lines_settled left failed old new why its) [
        | inl none ↦ rw none tt
        | inr is ↦ rw is.0 (record { nodes = nodes; accepted = accepted set; text = is.1 })
      ]

  pub bans_fault : (nodes_left lines_left : Option (List ℕ)) (nodes : List Node)
      (lines : List RoadLine) (why : MapFault) → AreLinesAccepted nodes_left lines_left nodes lines
      → FaultOfFile left failed old new Bans (IsBansFault lines) why
      → IsFaultLeft (texts_of nodes_left lines_left (left old)) why
  bans_fault nodes_left lines_left nodes lines why all its =
      elim (found (bans_table lines) bans_settled left failed old new why its) [
        | inl none ↦ rw none tt
        | inr is ↦ rw is.0 (record { nodes = nodes; lines = lines; accepted = all; text = is.1 })
      ]

  -- a fault of the file of lines is not one of bans
  pub not_of_bans : (nodes : List Node) (why : MapFault)
      → FaultOfFile left failed old new Lines (IsLinesFault nodes) why → file_of why ≡ Some Bans → ⊥
  not_of_bans nodes why its same = grind (arith, found, lines_settled)
