-- The words of the text of a record.
use Rattle.std.specs.Prelude.{◌≡◌, ◌≢◌, ◌⊎◌, ℕ, ◌≤◌, ◌==◌, List, ◌++◌, length, codes, Option, None, Some}
use Rattle.std.specs.List.{slice_split}

-- the words, and the reference behind the first ` -- `, if there is one
pub record Parts : Type 0 where
  pub words : List (List ℕ)
  pub reference : Option (List ℕ)

abbrev pub parts : List (List ℕ) → Option (List ℕ) → Parts
parts words reference = record { words = words; reference = reference }

-- a text cut at each space
abbrev pub at_spaces : List ℕ → List (List ℕ)
at_spaces text = slice_split (λ byte. byte == 32) text

-- what stands between words and a reference
abbrev pub dashes : List ℕ
dashes = codes " -- "

-- there is none in a text
abbrev pub HasNoDashes : List ℕ → Type 0
HasNoDashes text = (before reference : List ℕ) → text ≢ before ++ (dashes ++ reference)

-- the first one stands between what is before it and the reference
pub record IsAtDashes (text before reference : List ℕ) : Type 0 where
  pub whole : text ≡ before ++ (dashes ++ reference)
  pub first : (front rest : List ℕ) → text ≡ front ++ (dashes ++ rest)
      → length before ≤ length front

-- the words before the first ` -- ` and the reference behind it; or, where there is none, the words of
-- the whole text
abbrev pub ArePartsOf : List ℕ → Parts → Type 0
ArePartsOf text its = (HasNoDashes text × (its ≡ parts (at_spaces text) None))
    ⊎ ((before : List ℕ) × (reference : List ℕ) × IsAtDashes text before reference
    × (its ≡ parts (at_spaces before) (Some reference)))
