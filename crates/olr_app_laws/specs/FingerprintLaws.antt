-- What holds of fingerprinted texts.
use Rattle.std.specs.Prelude.{◌≡◌, ℕ, List, Contains}
use Rattle.olr_binary.specs.Text.{trimmed}
use Rattle.olr_binary.specs.Outcome.{IsTextOf}
use Rattle.olr_binary.specs.declared.reference.Reference.{Reference}
use Rattle.olr_candidates.specs.declared.tolerances.Tolerances.{Tolerances}
use Rattle.olr_road.specs.RoadMap.{RoadMap, IsSoundMap}
use Rattle.olr_fingerprint.specs.Fingerprint.{fingerprinted_text}

-- the text is one line: no line feed is in it
abbrev pub IsOneLine : List ℕ → Type 0
IsOneLine text = ¬ (Contains text 10)

-- a request on a map: the text of its reference, its tolerances, and the map
pub record IsRequest (text : List ℕ) (tolerances : Tolerances) (road : RoadMap) : Type 0 where
  pub one_line : IsOneLine (trimmed text)
  pub sound : IsSoundMap road

-- Equal texts name the same reference, but for blanks at the ends of its text, the same tolerances
-- and the same map.
pub record SameInputs (text other : List ℕ) (a b : Tolerances) (road another : RoadMap) : Type 0
  where
    pub reference : trimmed text ≡ trimmed other
    pub tolerances : a ≡ b
    pub map : road ≡ another

abbrev pub OneRequestByText : Type 0
OneRequestByText = (text other : List ℕ) (a b : Tolerances) (road another : RoadMap)
    → IsRequest text a road → IsRequest other b another
    → fingerprinted_text text a road ≡ fingerprinted_text other b another
    → SameInputs text other a b road another

-- The text of every reference is one line, the blanks at its ends aside.
abbrev pub ReferenceIsOneLine : Type 0
ReferenceIsOneLine = (text : List ℕ) (reference : Reference) → IsTextOf text reference
    → IsOneLine (trimmed text)
