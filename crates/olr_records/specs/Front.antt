-- What a text spells before a byte, or to its end.
use Rattle.std.specs.Prelude.{◌≡◌, ℕ, ◌<◌, Option, Some, None, List, [], ◌∷◌, ◌++◌, ◌⊎◌}

-- neither a digit nor a sign
abbrev pub IsSeparator : ℕ → Type 0
IsSeparator byte = (byte < 45) ⊎ (57 < byte)

-- what follows a part of a text: nothing where the text ends, or else a byte and the rest
abbrev pub behind : ℕ → Option (List ℕ) → List ℕ
behind byte None = []
behind byte (Some rest) = byte ∷ rest

-- a part of a text spells something; either the text ends there, or this byte follows and then the
-- rest
pub record Begins (Spells : List ℕ → Type 0) (byte : ℕ) (text : List ℕ)
    (rest : Option (List ℕ)) : Type 0 where
  pub front : List ℕ
  pub whole : text ≡ front ++ behind byte rest
  pub spelled : Spells front
