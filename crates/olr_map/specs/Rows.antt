-- What the records of the three files spell. The fields of a record are counted from 0.
use Rattle.std.specs.Prelude.{◌≡◌, ℕ, ◌+◌, ◌≤◌, List, [], ◌∷◌, ◌++◌, length, Some, slice_get, codes}
use Rattle.olr_records.specs.Records.{field_at}
use Rattle.olr_base.specs.Coordinates.{Coordinates}
use Rattle.olr_records.specs.Fields.{IsId, IsKind, IsLength, SpellsLongitude, SpellsLatitude}
use Rattle.olr_records.specs.Shape.{IsShape}
use Rattle.olr_road.specs.declared.ban.Ban.{Ban}
use Rattle.olr_road.specs.RoadMap.{Node, RoadLine, line_ids, HasEqualNeighbours, IsAdjacent}

-- this field of a record spells this value
pub record SpellsAt {A : Type 0} (Spells : List ℕ → A → Type 0) (fields : List (List ℕ)) (index : ℕ)
    (value : A) : Type 0 where
  pub text : List ℕ
  pub field : field_at fields index ≡ Some text
  pub spells : Spells text value

-- this field of a record spells some value
abbrev pub HasValue : {A : Type 0} → (List ℕ → A → Type 0) → List (List ℕ) → ℕ → Type 0
HasValue {A} Spells fields index = (value : A) × SpellsAt Spells fields index value

-- ---- nodes

-- the first record of the file of nodes
abbrev pub node_header : List (List ℕ)
node_header = codes "id" ∷ codes "lon" ∷ codes "lat" ∷ []

-- the record is that of the node
pub record IsNode (fields : List (List ℕ)) (node : Node) : Type 0 where
  pub three : length fields ≡ length node_header
  pub id : SpellsAt IsId fields 0 node.id
  pub lon : SpellsAt SpellsLongitude fields 1 node.place.lon
  pub lat : SpellsAt SpellsLatitude fields 2 node.place.lat

-- ---- lines

-- the first record of the file of lines
abbrev pub line_header : List (List ℕ)
line_header = codes "id" ∷ codes "from" ∷ codes "to" ∷ codes "class" ∷ codes "form" ∷ codes "length"
    ∷ codes "shape" ∷ []

-- of nodes by rising id, the one of this rank has this id and lies here
abbrev pub IsNodeAt : List Node → ℕ → ℕ → Coordinates → Type 0
IsNodeAt nodes id rank place = slice_get nodes rank ≡ Some (record { id = id; place = place })

-- this field of a record spells the id of the node of this rank, which lies here
pub record IsEnd (nodes : List Node) (fields : List (List ℕ)) (index rank : ℕ)
    (place : Coordinates) : Type 0 where
  pub id : ℕ
  pub spelled : SpellsAt IsId fields index id
  pub node : IsNodeAt nodes id rank place

-- the points that a record gives a line: the node at which it starts, its shape, the node at which
-- it ends
pub record ArePoints (nodes : List Node) (fields : List (List ℕ)) (from to : ℕ)
    (points : List Coordinates) : Type 0 where
  pub first : Coordinates
  pub last : Coordinates
  pub shape : List Coordinates
  pub start : IsEnd nodes fields 1 from first
  pub end : IsEnd nodes fields 2 to last
  pub between : SpellsAt IsShape fields 6 shape
  pub joined : points ≡ first ∷ shape ++ last ∷ []

-- the record is that of the line, on these nodes by rising id
pub record IsLine (nodes : List Node) (fields : List (List ℕ)) (line : RoadLine) : Type 0 where
  pub seven : Rattle.std.specs.Prelude.length fields ≡ Rattle.std.specs.Prelude.length line_header
  pub id : SpellsAt IsId fields 0 line.id
  pub class : SpellsAt IsKind fields 3 line.class
  pub form : SpellsAt IsKind fields 4 line.form
  pub length : SpellsAt IsLength fields 5 line.length
  pub points : ArePoints nodes fields line.from line.to line.points
  pub long : 1 ≤ line.length
  pub apart : HasEqualNeighbours line.points → ⊥

-- ---- bans on turns

-- the first record of the file of bans
abbrev pub ban_header : List (List ℕ)
ban_header = codes "from" ∷ codes "to" ∷ []

-- this field of a record spells the id of the line of this rank
pub record IsLineNamed (lines : List RoadLine) (fields : List (List ℕ)) (index rank : ℕ) : Type 0
  where
    pub id : ℕ
    pub spelled : SpellsAt IsId fields index id
    pub line : slice_get (line_ids lines) rank ≡ Some id

-- a record names the two lines of a ban
pub record NamesLines (lines : List RoadLine) (fields : List (List ℕ)) (ban : Ban) : Type 0 where
  pub from : IsLineNamed lines fields 0 ban.from
  pub to : IsLineNamed lines fields 1 ban.to

-- the record is that of the ban, on lines by rising id
pub record IsBan (lines : List RoadLine) (fields : List (List ℕ)) (ban : Ban) : Type 0 where
  pub two : Rattle.std.specs.Prelude.length fields ≡ Rattle.std.specs.Prelude.length ban_header
  pub named : NamesLines lines fields ban
  pub adjacent : IsAdjacent lines ban
