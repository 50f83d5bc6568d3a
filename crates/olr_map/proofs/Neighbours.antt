-- Neighbours in a list that are equal.
use Rattle.olr_map.proofs.Common.{Degrees, Coordinates, coordinates_of, ◌≡◌, ℕ, zero, suc, ◌+◌, ◌-◌, ◌<◌, ◌≤◌, List, [], ◌∷◌, ◌++◌, map, length, get_or, refl, sym, ap, ◌∙◌, inl, inr, arith, eq-or-lt_of_le, length-map, get_or-map, HasEqualNeighbours}

pub equal_at : (xs : List Coordinates) (k : ℕ) (d : Coordinates) → suc k < length xs
    → get_or xs k d ≡ get_or xs (suc k) d → HasEqualNeighbours xs
equal_at (x ∷ y ∷ xs) zero d inside same = record { front = []; rest = xs; place = y; equal = cc }
equal_at (x ∷ xs) (suc k) d inside same =
    let deeper = equal_at _ k d (omega arith) same in
    record {
      front = x ∷ deeper.front;
      rest = deeper.rest;
      place = deeper.place;
      equal = ap (λ (l : List Coordinates). x ∷ l) deeper.equal;
    }
equal_at _ _ d inside same = absurd (omega arith)

place_of_twins : (front rest : List Coordinates) (place d : Coordinates)
    → (suc (length front) < length (front ++ place ∷ place ∷ rest))
    × (get_or (front ++ place ∷ place ∷ rest) (length front) d
    ≡ get_or (front ++ place ∷ place ∷ rest) (suc (length front)) d)
place_of_twins [] rest place d = (omega arith, refl)
place_of_twins (x ∷ front) rest place d = grind (arith, place_of_twins front rest place d)

-- no neighbours below a place are equal
abbrev pub NoneEqualBelow : List Coordinates → ℕ → Type 0
NoneEqualBelow xs end = (k : ℕ) (d : Coordinates) → suc k < end
    → get_or xs k d ≡ get_or xs (suc k) d → ⊥

pub none_equal : {xs : List Coordinates} {end : ℕ} → length xs ≤ end → NoneEqualBelow xs end
    → HasEqualNeighbours xs → ⊥
none_equal all none has =
    let size = ap length has.equal in
    let at = place_of_twins has.front has.rest has.place has.place in
    none (length has.front) has.place (omega arith) (cc)

-- of the points of a line
pub equal_among : (points : List Degrees) (next : ℕ) (a b : Degrees) → 1 ≤ next
    → next < length points → a ≡ get_or points (next - 1) a → b ≡ get_or points next b
    → coordinates_of a ≡ coordinates_of b → HasEqualNeighbours (map coordinates_of points)
equal_among points next a b some inside at_a at_b same =
    let size = length-map points coordinates_of in
    let before = get_or-map coordinates_of points (next - 1) a (coordinates_of a) (omega arith)
    ∙ ap coordinates_of (sym at_a) in
    let this = get_or-map _ _ _ b _ inside ∙ ap coordinates_of (sym at_b) in
    let up : suc (next - 1) ≡ next = omega arith in
    equal_at _ _ _ (omega arith) (before ∙ same ∙ sym this
    ∙ ap (λ (k : ℕ). get_or (map coordinates_of points) k (coordinates_of a)) (sym up))

pub one_more_differs : (points : List Degrees) (next : ℕ) (a b : Degrees) → 1 ≤ next
    → next < length points → a ≡ get_or points (next - 1) a → b ≡ get_or points next b
    → (coordinates_of a ≡ coordinates_of b → ⊥) → NoneEqualBelow (map coordinates_of points) next
    → NoneEqualBelow (map coordinates_of points) (next + 1)
one_more_differs points next a b some inside at_a at_b differ none k d below same =
    elim (eq-or-lt_of_le {n = suc k} {m = next} (omega arith)) [
      | inl e ↦
          let here : k ≡ next - 1 = omega arith in
          let before = get_or-map coordinates_of points (next - 1) a d (omega arith)
          ∙ ap coordinates_of (sym at_a) in
          let this = get_or-map _ _ _ b d inside ∙ ap coordinates_of (sym at_b) in
          differ (sym before
          ∙ sym (ap (λ (i : ℕ). get_or (map coordinates_of points) i d) here) ∙ same
          ∙ ap (λ (i : ℕ). get_or (map coordinates_of points) i d) e ∙ this)
      | inr less ↦ none k d less same
    ]
