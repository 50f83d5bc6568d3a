-- A record that is a header has its names, one after the other, and no more.
use Rattle.olr_map.proofs.Common.{◌≡◌, ℕ, zero, suc, ◌+◌, ◌<◌, List, [], ◌∷◌, map, length, get_or, Some, Bor, refl, ap, ◌∙◌, arith, slice_get, eq-or-lt_of_le, length-map, get_or-map, slice_get-get_or, field_at}

field_there : (fields : List (List ℕ)) (place : ℕ) → field_at fields place ≡ slice_get fields place
unfolding field_at
field_there [] place = refl
field_there (field ∷ fields) zero = refl
field_there (field ∷ fields) (suc place) = field_there fields place

-- a field that isn't that of the header
pub other_field : (fields header : List (List ℕ)) (place : ℕ) (name : List ℕ)
    → slice_get header place ≡ Some name → (field_at fields place ≡ Some name → ⊥) → fields ≡ header
    → ⊥
other_field fields header place name at other same = other (cc (field_there _ _))

-- one more field is that of the header
pub one_more_field : (fields header : List (List ℕ)) (place : ℕ)
    → ((k : ℕ) → k < place → field_at fields k ≡ slice_get header k)
    → field_at fields place ≡ slice_get header place
    → (k : ℕ) → k < place + 1 → field_at fields k ≡ slice_get header k
one_more_field fields header place before here k below = grind (arith, eq-or-lt_of_le)

-- each field is that of the header
pub each_field : (fields header : List (List ℕ)) → length fields ≡ length header
    → ((place : ℕ) → place < length header → field_at fields place ≡ slice_get header place)
    → fields ≡ header
unfolding field_at
each_field [] [] size at = refl
each_field (field ∷ fields) (name ∷ names) size at =
    let first : field ≡ name = cc (at 0 (omega arith)) in
    let rest = each_field _ _ (omega arith)
    (λ place inside. at (suc place) (omega (arith, inside))) in
    ap (λ (f : List ℕ). f ∷ fields) first ∙ ap (λ (l : List (List ℕ)). name ∷ l) rest
each_field _ _ size at = absurd (omega arith)

-- the bytes of a name
abbrev pub bytes_of : Bor (List ℕ) → List ℕ
bytes_of name = name.now

pub name_at : (names : List (Bor (List ℕ))) (place : ℕ) (name : Bor (List ℕ)) → place < length names
    → slice_get (map bytes_of names) place ≡ Some (get_or names place name).now
name_at names place name inside =
    slice_get-get_or (map bytes_of names) place [] (omega (arith, length-map names bytes_of))
    ∙ ap (λ (l : List ℕ). Some l) (get_or-map _ _ _ _ [] inside)
