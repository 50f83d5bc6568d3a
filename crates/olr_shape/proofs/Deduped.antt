-- What is left of spots where equal neighbours stand once.
use Rattle.std.proofs.Common.{◌≡◌, Bool, true, false, cond, List, [], ◌∷◌, map, refl, ap, ◌∙◌}
use Rattle.std.proofs.lemmas.List.Filters.{dedup_is}
use Rattle.std.specs.List.{dedup, dedup_from}
use Rattle.std.specs.List.Retain.{DiffersFromLast, IsFiltered}
use Rattle.olr_base.specs.Coordinates.{Coordinates, coordinates_of}
use Rattle.olr_base.specs.declared.degrees.Degrees.{Degrees}
use Rattle.olr_shape.specs.Shape.{is_same}

choice : (b c : Bool) (xs ys : List Degrees) (us vs : List Coordinates) → b ≡ c
    → map coordinates_of xs ≡ us → map coordinates_of ys ≡ vs
    → map coordinates_of (cond b xs ys) ≡ cond c us vs
choice true true xs ys us vs same first second = first
choice true false xs ys us vs same first second = cc
choice false true xs ys us vs same first second = cc
choice false false xs ys us vs same first second = second

module _ (E : Degrees → Degrees → Bool)
    (same : (x y : Degrees) → E x y ≡ is_same (coordinates_of x) (coordinates_of y)) where
  from_first : (k : Degrees) (xs : List Degrees) → map coordinates_of (dedup_from E k xs)
      ≡ dedup_from is_same (coordinates_of k) (map coordinates_of xs)
  from_first k [] = refl
  from_first k (x ∷ xs) = choice (E x k) _ _ _ _ _ (same x k) (from_first k xs)
      (ap (λ l. coordinates_of k ∷ l) (from_first x xs))

  map-dedup : (xs : List Degrees) → map coordinates_of (dedup E xs)
      ≡ dedup is_same (map coordinates_of xs)
  map-dedup [] = refl
  map-dedup (x ∷ xs) = from_first x xs

  pub deduped : (xs ys : List Degrees) → IsFiltered (DiffersFromLast E) [] xs ys
      → map coordinates_of ys ≡ dedup is_same (map coordinates_of xs)
  deduped xs ys filtered = ap (map coordinates_of) (dedup_is E xs ys filtered) ∙ map-dedup xs
