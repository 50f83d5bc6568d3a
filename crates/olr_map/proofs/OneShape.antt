-- A text spells one shape at most.
use Rattle.olr_map.proofs.Common.{Coordinates, IsItem, AreItems, IsShape, rules, ◌≡◌, ℕ, List, [], ◌∷◌, ◌++◌, Some, sym, ap, ◌∙◌, arith}
use Rattle.olr_records.specs.Front.{Begins}
use Rattle.olr_records.proofs.Cuts.{not_avoided}
use Rattle.olr_records.proofs.Items.{item_once, rest_of_item}

-- items begin with the first one
first_of : (text : List ℕ) (a c : Coordinates) (ps : List Coordinates)
    → (are : AreItems text (a ∷ c ∷ ps)) → Begins (λ front. IsItem front a) 59 text (Some are.1)
first_of text a c ps are = search rules

items_once : (text : List ℕ) (ps qs : List Coordinates) → AreItems text ps → AreItems text qs
    → ps ≡ qs
items_once text [] qs is other = absurd is
items_once text (a ∷ ps) [] is other = absurd other
items_once text (a ∷ []) (b ∷ []) is other = cc (item_once _ a b is other)
items_once text (a ∷ []) (b ∷ d ∷ qs) is other = let step =
    rest_of_item text other.1 b a [] (first_of text b d qs other) is in absurd cc
items_once text (a ∷ c ∷ ps) (b ∷ []) is other = let step =
    rest_of_item text is.1 a b [] (first_of text a c ps is) other in absurd cc
items_once text (a ∷ c ∷ ps) (b ∷ d ∷ qs) is other =
    let step = rest_of_item _ _ a b (d ∷ qs) (first_of _ a c ps is) other in
    let rest = items_once is.1 (c ∷ ps) (step.1 ∷ step.2) is.4 step.4 in
    ap (λ (place : Coordinates). place ∷ c ∷ ps) (sym step.0)
    ∙ ap (λ (l : List Coordinates). b ∷ l) (cc)

-- a text with a byte in it is not empty
not_empty : (byte : ℕ) (text front rest : List ℕ) → text ≡ front ++ byte ∷ rest → text ≡ [] → ⊥
not_empty byte text front rest whole none =
    not_avoided _ _ _ _ whole (rw none (λ k inside. absurd (omega arith)))

-- an empty text is no item
none_there : {text : List ℕ} (places : List Coordinates) → text ≡ [] → AreItems text places → ⊥
none_there [] none are = are
none_there (place ∷ []) none are = not_empty _ _ _ _ are.spaced none
none_there (place ∷ next ∷ places) none are = not_empty _ _ _ _ are.2 none

pub shape_once : (text : List ℕ) (a b : List Coordinates) → IsShape text a → IsShape text b → a ≡ b
shape_once text a b is other = grind (arith, none_there, items_once)
