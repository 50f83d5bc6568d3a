-- The shape of a line: the places between its ends.
use Rattle.std.specs.Prelude.{◌≡◌, ℕ, ◌≤◌, List, [], ◌∷◌, ◌++◌, length, ◌⊎◌}
use Rattle.olr_base.specs.Coordinates.{Coordinates}
use Rattle.olr_records.specs.Fields.{SpellsLongitude, SpellsLatitude}

-- an item: a longitude, one space, a latitude
pub record IsItem (text : List ℕ) (place : Coordinates) : Type 0 where
  pub lon : List ℕ
  pub lat : List ℕ
  pub spaced : text ≡ lon ++ 32 ∷ lat
  pub longitude : SpellsLongitude lon place.lon
  pub latitude : SpellsLatitude lat place.lat

-- one item, or an item, ';' and further items
abbrev pub AreItems : List ℕ → List Coordinates → Type 0
AreItems text [] = ⊥
AreItems text (place ∷ []) = IsItem text place
AreItems text (place ∷ next ∷ places) = (item rest : List ℕ) × (text ≡ item ++ 59 ∷ rest)
    × IsItem item place × AreItems rest (next ∷ places)

-- 1 to 64 items
abbrev pub AreFewItems : List ℕ → List Coordinates → Type 0
AreFewItems text places = AreItems text places × (length places ≤ 64)

-- a shape: nothing at all for no place, or else items
abbrev pub IsShape : List ℕ → List Coordinates → Type 0
IsShape text places = ((text ≡ []) × (places ≡ [])) ⊎ AreFewItems text places
