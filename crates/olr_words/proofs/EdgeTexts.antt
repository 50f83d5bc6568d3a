-- The texts of edges: they have no comma, so a text is read as edges in one way.
use Rattle.std.proofs.Common.{◌≡◌, ◌≢◌, ℕ, ℤ, Bool, true, false, ◌<◌, ◌==◌, eqb-true, List, [], ◌∷◌, ◌++◌, length, subst, get_or, arith, zero, suc, sym, refl, ap, ◌∙◌}
use Rattle.std.proofs.lemmas.Str.Parse.{digit_at}
use Rattle.std.specs.Prelude.{if◌then◌else◌}
use Rattle.std.specs.Str.Parse.{AllDigits, signed_digits_value}
use Rattle.olr_words.proofs.Commas.{IsCut, LacksComma, one_cut}
use Rattle.olr_words.specs.BoxText.{BeginsWithEdge, IsBoxText, SpellsBox, SpellsEdge}
use Rattle.olr_words.specs.declared.box_text.Edges.{Edges}

digits_lack : (text : List ℕ) → AllDigits 10 text → LacksComma text
digits_lack text digits = record {
  each = λ i inside same. let digit = digit_at text i digits inside in omega arith;
}

after_minus : (first : ℕ) (rest : List ℕ) → first ≡ 45 → LacksComma rest → LacksComma (first ∷ rest)
after_minus first rest minus lacks = record { each = at }
  where
    at : (i : ℕ) → i < length (first ∷ rest) → get_or (first ∷ rest) i 0 ≢ 44
    at zero inside same = omega arith
    at (suc i) inside same = lacks.each i (omega arith) same

lacks_signed : (first : ℕ) (rest : List ℕ) (minus : Bool) → (first == 45) ≡ minus
    → AllDigits 10 (if minus then rest else (first ∷ rest)) → LacksComma (first ∷ rest)
lacks_signed first rest true is digits = after_minus _ _ (eqb-true first 45 is) (digits_lack _ digits)
lacks_signed first rest false is digits = digits_lack _ digits

lacks_edge : {z : ℤ} (text : List ℕ) → SpellsEdge text z → LacksComma text
lacks_edge [] edge = record { each = λ i inside. absurd (omega arith) }
lacks_edge (first ∷ rest) edge = lacks_signed first rest _ refl edge.digits.1

-- what stands behind an edge and a comma, in each way to read a text as that
pub one_rest : {text rest rest' : List ℕ} {z z' : ℤ} → BeginsWithEdge text z rest
    → BeginsWithEdge text z' rest' → rest ≡ rest'
one_rest one other =
    (one_cut one.first _ other.first _ (lacks_edge _ one.first_is) (lacks_edge _ other.first_is)
    (sym one.joined ∙ other.joined)).1

-- where the text before the first comma spells no edge, no text of an edge and a comma begins the text
pub no_edge : {text front later : List ℕ} → IsCut text front later
    → ((z : ℤ) → ¬ (SpellsEdge front z)) → (z : ℤ) (rest : List ℕ) → ¬ (BeginsWithEdge text z rest)
no_edge cut none z rest begins =
    let same = one_cut _ _ _ _ cut.lacks (lacks_edge _ begins.first_is) (sym cut.whole ∙ begins.joined) in
    none z (subst (λ text. SpellsEdge text z) (sym same.0) begins.first_is)

-- ---- a box's edges, in a text that was read as one edge after the other

pub west_of : {text : List ℕ} (box : IsBoxText text)
    → BeginsWithEdge text box.0.west (box.1.south ++ 44 ∷ (box.1.east ++ 44 ∷ box.1.north))
west_of box = record { first = box.1.west; joined = box.1.joined; first_is = box.1.west_is }

pub south_of : {text rest : List ℕ} {z : ℤ} → BeginsWithEdge text z rest → (box : IsBoxText text)
    → BeginsWithEdge rest box.0.south (box.1.east ++ 44 ∷ box.1.north)
south_of west box = record {
  first = box.1.south;
  joined = one_rest west (west_of box);
  first_is = box.1.south_is;
}

pub east_of : {text rest rest' : List ℕ} {z z' : ℤ} → BeginsWithEdge text z rest
    → BeginsWithEdge rest z' rest' → (box : IsBoxText text)
    → BeginsWithEdge rest' box.0.east box.1.north
east_of west south box = record {
  first = box.1.east;
  joined = one_rest south (south_of west box);
  first_is = box.1.east_is;
}

pub north_of : {text rest rest' rest'' : List ℕ} {z z' z'' : ℤ} → BeginsWithEdge text z rest
    → BeginsWithEdge rest z' rest' → BeginsWithEdge rest' z'' rest'' → (box : IsBoxText text)
    → SpellsEdge rest'' box.0.north
north_of west south east box =
    subst (λ text. SpellsEdge text box.0.north) (one_rest (east_of west south box) east)
    box.1.north_is

-- ---- a text spells one box

one_value : {z z' : ℤ} (text text' : List ℕ) → text ≡ text' → SpellsEdge text z
    → SpellsEdge text' z' → z ≡ z'
one_value text text' same edge other =
    edge.value ∙ (ap (λ t. signed_digits_value 10 t) same ∙ sym other.value)

one_first : {text rest rest' : List ℕ} {z z' : ℤ} → BeginsWithEdge text z rest
    → BeginsWithEdge text z' rest' → z ≡ z'
one_first one other = one_value _ _
    (one_cut one.first _ other.first _ (lacks_edge _ one.first_is) (lacks_edge _ other.first_is)
    (sym one.joined ∙ other.joined)).0 one.first_is other.first_is

same_edges : (a b : Edges) → a.west ≡ b.west → a.south ≡ b.south → a.east ≡ b.east
    → a.north ≡ b.north → a ≡ b
same_edges a b west south east north =
    λ k. record { west = west k; south = south k; east = east k; north = north k }

pub one_edges : {text : List ℕ} {a b : Edges} → SpellsBox text a → SpellsBox text b → a ≡ b
one_edges {a = a} {b = b} one other =
    let box : IsBoxText _ = (a, one) in
    let again : IsBoxText _ = (b, other) in
    let west = west_of box in
    let south = south_of west box in
    let east = east_of west south box in
    same_edges a b (one_first west (west_of again)) (one_first south (south_of west again))
    (one_first east (east_of west south again))
    (one_value _ _ refl (north_of west south east box) (north_of west south east again))
