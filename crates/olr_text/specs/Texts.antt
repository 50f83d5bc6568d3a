-- The texts of lists, and of what may be missing.
use Rattle.std.specs.Prelude.{ℕ, ◌+◌, List, [], ◌∷◌, ◌++◌, Option, None, Some}

-- the texts of items, one after another, the first of which has this number
abbrev pub texts_from : {A : Type 0} → (ℕ → A → List ℕ) → ℕ → List A → List ℕ
texts_from text number [] = []
texts_from text number (item ∷ items) = text number item ++ texts_from text (number + 1) items

-- the text of an item that doesn't show its number
abbrev pub unnumbered : {A : Type 0} → (A → List ℕ) → ℕ → A → List ℕ
unnumbered text number item = text item

-- the texts of such items, one after another
abbrev pub texts_of : {A : Type 0} → (A → List ℕ) → List A → List ℕ
texts_of text items = texts_from (unnumbered text) 1 items

-- the text of what may be there, or a word where it isn't
abbrev pub text_or : {A : Type 0} → (A → List ℕ) → List ℕ → Option A → List ℕ
text_or text word None = word
text_or text word (Some a) = text a
