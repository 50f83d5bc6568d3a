-- Texts that are joined by commas.
use Rattle.std.specs.Prelude.{ℕ, List, [], ◌∷◌, ◌++◌, codes}

module _ {A : Type 0} (text : A → List ℕ) where
  -- the texts of these, each behind a comma
  abbrev pub behind_commas : List A → List ℕ
  behind_commas [] = []
  behind_commas (a ∷ all) = codes "," ++ text a ++ behind_commas all

  -- their texts, joined by commas
  abbrev pub joined : List A → List ℕ
  joined [] = []
  joined (a ∷ all) = text a ++ behind_commas all
