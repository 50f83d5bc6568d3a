-- The texts of lists of values.
use Rattle.std.proofs.Common.{◌≡◌, ℕ, ◌+◌, List, [], ◌∷◌, ◌++◌, map, refl, ap}
use Rattle.olr_text.specs.Texts.{texts_from}

-- the texts of the values of items are those of the items by their values
pub of_values : {A B : Type 0} (text : ℕ → B → List ℕ) (value : A → B) (number : ℕ)
    (items : List A)
    → texts_from (λ number item. text number (value item)) number items
    ≡ texts_from text number (map value items)
of_values text value number [] = refl
of_values text value number (item ∷ items) =
    ap (λ rest. text number (value item) ++ rest) (of_values text value (number + 1) items)
