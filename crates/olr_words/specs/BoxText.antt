-- The text of a box of coordinates.
use Rattle.std.specs.Prelude.{◌≡◌, ℕ, ℤ, ◌≤◌, List, ◌∷◌, ◌++◌, drop, length, FitsSigned, if◌then◌else◌}
use Rattle.std.specs.Int.{w32}
use Rattle.std.specs.Str.Parse.{IsNumeral, signed_digits_value, starts_with_minus}
use Rattle.olr_words.specs.declared.box_text.Edges.{Edges}

-- what stands behind a minus, or the whole text where it begins with none
abbrev pub without_minus : List ℕ → List ℕ
without_minus text = if starts_with_minus text then drop 1 text else text

-- the text of an edge: 1 to 16 digits, behind a minus or not, which write a number of 32 bits
pub record SpellsEdge (text : List ℕ) (z : ℤ) : Type 0 where
  pub digits : IsNumeral 10 (without_minus text)
  pub short : length (without_minus text) ≤ 16
  pub value : z ≡ signed_digits_value 10 text
  pub fits : FitsSigned w32 z

-- a text that begins with the text of an edge and a comma, and what stands behind that comma
pub record BeginsWithEdge (text : List ℕ) (z : ℤ) (rest : List ℕ) : Type 0 where
  pub first : List ℕ
  pub joined : text ≡ first ++ 44 ∷ rest
  pub first_is : SpellsEdge first z

-- four such texts joined by commas: those of the west, the south, the east and the north
pub record SpellsBox (text : List ℕ) (edges : Edges) : Type 0 where
  pub west : List ℕ
  pub south : List ℕ
  pub east : List ℕ
  pub north : List ℕ
  pub joined : text ≡ west ++ 44 ∷ (south ++ 44 ∷ (east ++ 44 ∷ north))
  pub west_is : SpellsEdge west edges.west
  pub south_is : SpellsEdge south edges.south
  pub east_is : SpellsEdge east edges.east
  pub north_is : SpellsEdge north edges.north

-- the text spells a box
abbrev pub IsBoxText : List ℕ → Type 0
IsBoxText text = (edges : Edges) × SpellsBox text edges
