-- The items of a shape, each spelled in one way.
use Rattle.olr_records.proofs.Common.{◌≡◌, ℕ, ℤ, List, [], ◌∷◌, ◌++◌, Option, Some, None, refl, sym, ap, ◌∙◌, inl, inr, append_assoc, arith, Coordinates, IsSignedNumber, SpellsLongitude, SpellsLatitude, behind, Begins, IsItem, AreItems}
use Rattle.olr_records.proofs.Cuts.{Avoids, behind_first, one_way, not_avoided, avoids_parts}
use Rattle.olr_records.proofs.Signs.{signed_avoids, begins_once, whole_begins}

-- an item has no ';'
item_avoids : (text : List ℕ) {place : Coordinates} → IsItem text place → Avoids 59 text
item_avoids text is = rw is.spaced
    (avoids_parts _ _ _ _ (signed_avoids _ (inr (omega arith)) is.longitude.number)
    (λ e. omega (arith, e)) (signed_avoids _ (inr (omega arith)) is.latitude.number))

-- ---- the two numbers of an item in front of a text

-- a longitude begins it
abbrev pub longitude_of_item : (text : List ℕ) (place : Coordinates) (rest : Option (List ℕ))
    → (begins : Begins (λ front. IsItem front place) 59 text rest)
    → Begins (λ front. SpellsLongitude front place.lon) 32 text
    (Some (begins.spelled.lat ++ behind 59 rest))
longitude_of_item text place rest begins =
    let is = begins.spelled in
    record {
      front = is.lon;
      whole = begins.whole ∙ ap (λ (l : List ℕ). l ++ behind _ _) is.spaced
          ∙ append_assoc is.lon (32 ∷ is.lat) (behind _ _);
      spelled = is.longitude;
    }

number_of : {text : List ℕ} {rest : Option (List ℕ)} {lon : ℤ}
    → Begins (λ front. SpellsLongitude front lon) 32 text rest
    → Begins (λ front. IsSignedNumber front lon) 32 text rest
number_of begins = grind arith

-- behind that longitude there is a space
pub spaced : (text : List ℕ) {lon : ℤ} (place : Coordinates) (rest : Option (List ℕ))
    → Begins (λ front. SpellsLongitude front lon) 32 text None
    → Begins (λ front. IsItem front place) 59 text rest → ⊥
spaced text place rest first begins =
    let same = begins_once _ _ _ _ None _ (inl (omega arith)) (number_of first)
    (number_of (longitude_of_item text place rest begins)) in
    absurd cc

-- and then a latitude
pub latitude_of_item : (text : List ℕ) (lon : ℤ) (after : List ℕ) (place : Coordinates)
    (rest : Option (List ℕ)) → Begins (λ front. SpellsLongitude front lon) 32 text (Some after)
    → Begins (λ front. IsItem front place) 59 text rest
    → Begins (λ front. SpellsLatitude front place.lat) 59 after rest
latitude_of_item text lon after place rest first begins =
    let same = begins_once text 32 lon place.lon (Some after) _ (inl (omega arith))
    (number_of first) (number_of (longitude_of_item text place rest begins)) in
    record {
      front = begins.spelled.lat;
      whole = ap behind_first same.1;
      spelled = begins.spelled.latitude;
    }

-- both are an item
pub item_of_both : {text : List ℕ} (place : Coordinates) {after : List ℕ} {rest : Option (List ℕ)}
    → Begins (λ front. SpellsLongitude front place.lon) 32 text (Some after)
    → Begins (λ front. SpellsLatitude front place.lat) 59 after rest
    → Begins (λ front. IsItem front place) 59 text rest
item_of_both place first second = record {
  front = first.front ++ 32 ∷ second.front;
  whole = first.whole ∙ ap (λ (l : List ℕ). first.front ++ 32 ∷ l) second.whole
      ∙ sym (append_assoc first.front (32 ∷ second.front) (behind _ _));
  spelled = record {
    lon = first.front;
    lat = second.front;
    spaced = refl;
    longitude = first.spelled;
    latitude = second.spelled;
  };
}

-- an item spells one place
pub item_once : (text : List ℕ) (a b : Coordinates) → IsItem text a → IsItem text b → a ≡ b
item_once text a b is other =
    let first = longitude_of_item text a None (whole_begins _ 59 text is) in
    let lon = (begins_once text 32 a.lon b.lon _ _ (inl (omega arith)) (number_of first)
    (number_of (longitude_of_item text b None (whole_begins _ 59 text other)))).0 in
    let rest = latitude_of_item text a.lon _ b None first (whole_begins _ 59 text other) in
    let lat = (begins_once _ 59 a.lat b.lat None None (inr (omega arith))
    (record { front = is.lat; whole = refl; spelled = is.latitude.number })
    (record { front = rest.front; whole = rest.whole; spelled = rest.spelled.number })).0 in
    λ i. record { lon = lon i; lat = lat i }

-- ---- items, one after the other

-- the places of a text are these in front, and those that the rest spells
pub record Continues (text : List ℕ) (front : List Coordinates) (rest : List ℕ) : Type 0 where
  pub forth : (place : Coordinates) (others : List Coordinates) → AreItems rest (place ∷ others)
      → AreItems text (front ++ place ∷ others)
  pub back : (places : List Coordinates) → AreItems text places
      → (place : Coordinates) × (others : List Coordinates) × (places ≡ front ++ place ∷ others)
      × AreItems rest (place ∷ others)

some_place : {text : List ℕ} (places : List Coordinates) → AreItems text places
    → (place : Coordinates) × (others : List Coordinates) × (places ≡ place ∷ others)
    × AreItems text (place ∷ others)
some_place [] are = absurd are
some_place (place ∷ others) are = (place, others, refl, are)

pub at_start : {text : List ℕ} → Continues text [] text
at_start = record { forth = λ place others are. are; back = some_place }

-- what a rest spells begins with what its first item spells
pub rest_of_item : (rest others : List ℕ) (place next : Coordinates) (places : List Coordinates)
    → Begins (λ front. IsItem front place) 59 rest (Some others) → AreItems rest (next ∷ places)
    → (next ≡ place) × (q : Coordinates) × (qs : List Coordinates) × (places ≡ q ∷ qs)
    × AreItems others (q ∷ qs)
rest_of_item rest others place next [] begins are =
    absurd (not_avoided _ _ _ _ begins.whole (item_avoids _ are))
rest_of_item rest others place next (q ∷ qs) begins are =
    let same = one_way _ _ _ _ _ (item_avoids _ begins.spelled) (item_avoids _ are.3)
    (sym begins.whole ∙ are.2) in (
      item_once _ _ _ (rw same.0 are.3) begins.spelled,
      q,
      qs,
      refl,
      rw same.1 are.4,
    )

pub one_more_item : (text : List ℕ) (front : List Coordinates) (rest others : List ℕ)
    (place : Coordinates)
    → Continues text front rest → Begins (λ front. IsItem front place) 59 rest (Some others)
    → Continues text (front ++ place ∷ []) others
one_more_item text front rest others place continues begins = record {
  forth = λ next places are. rw (append_assoc front (place ∷ []) (next ∷ places))
      (continues.forth place (next ∷ places)
      (begins.front, others, begins.whole, begins.spelled, are));
  back = λ places are.
      let found = continues.back places are in
      let step = rest_of_item _ _ _ _ _ begins found.3 in (
        step.1,
        step.2,
        found.2 ∙ ap (λ (l : List Coordinates). front ++ l)
            (ap (λ (p : Coordinates). p ∷ found.1) step.0
            ∙ ap (λ (l : List Coordinates). place ∷ l) step.3)
            ∙ sym (append_assoc front (place ∷ []) (step.1 ∷ step.2)),
        step.4,
      );
}

-- a rest that begins with no item
pub no_item : {text : List ℕ} (front : List Coordinates) (rest : List ℕ) → Continues text front rest
    → ((place : Coordinates) (others : Option (List ℕ))
    → ¬ (Begins (λ front. IsItem front place) 59 rest others))
    → (places : List Coordinates) → AreItems text places → ⊥
no_item front rest continues none places are =
    let found = continues.back places are in
    first rest found.0 found.1 none found.3
  where
    first : (rest : List ℕ) (place : Coordinates) (places : List Coordinates)
        → ((place : Coordinates) (others : Option (List ℕ))
        → ¬ (Begins (λ front. IsItem front place) 59 rest others))
        → AreItems rest (place ∷ places) → ⊥
    first rest place [] none are = none place None (whole_begins _ _ _ are)
    first rest place (q ∷ qs) none are =
        none place (Some are.1) (record { front = are.0; whole = are.2; spelled = are.3 })
