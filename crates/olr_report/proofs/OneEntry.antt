-- A key has one entry at most: its parts are one value, and the joined route of its legs and the
-- location of a reference on it are determined by the legs.
use Rattle.olr_matching.specs.Layers.{LayersValue}
use Rattle.olr_report.proofs.Common.{Entry, IsEntryOf, IsRouteOver, Leg, Line, Piece, Place, PointAlong, Reference, RoadMap, Step, steps_of_legs, ◌≡◌, ℕ, List, [], ◌∷◌, map, Option, Some, None, refl, sym, ap, ◌∙◌, All, arith, All-head, All-tail, OneMatched, IsEntryAt, keys_of, IsJoinedRoute, IsLocation, IsPartBetween, LocatedLine, LocatedPoint, LocatedValue, IsSoundMap}
use Rattle.olr_report.specs.EntryLaws.{OneEntries, OneEntry, OneOfParts}

abbrev OneRoute : Type 0
OneRoute = (steps : List Step) (a b : List Piece) → IsRouteOver steps a → IsRouteOver steps b
    → a ≡ b

module _ (one_route : OneRoute) where
  one_part : (steps : List Step) (before behind : ℕ) (a b : Option (List Piece))
      → IsPartBetween steps before behind a → IsPartBetween steps before behind b → a ≡ b
  one_part steps before behind None None is is' = refl
  one_part steps before behind None (Some b) is is' = absurd (omega (arith, is, is'.0))
  one_part steps before behind (Some a) None is is' = absurd (omega (arith, is', is.0))
  one_part steps before behind (Some a) (Some b) is is' = ap Some (one_route _ a b is.1 is'.1)

  one_place : (found : Option Place) (a b : Place) → found ≡ Some a → found ≡ Some b → a ≡ b
  one_place found a b is is' = cc

  one_location : (legs : List Leg) (reference : Reference) (a b : LocatedValue)
      → IsLocation legs reference a → IsLocation legs reference b → a ≡ b
  one_location legs (Line points positive negative) (LocatedLine outer inner)
      (LocatedLine outer' inner') is is' =
      let around = one_part (steps_of_legs legs) _ _ outer outer' is.outer_part is'.outer_part in
      let within = one_part (steps_of_legs legs) _ _ inner inner' is.inner_part is'.inner_part in
      rw (around, within) refl
  one_location legs (Line points positive negative) (LocatedPoint earliest latest) b is is' =
      absurd is
  one_location legs (PointAlong points orientation side positive) (LocatedLine outer inner) b is
      is' = absurd is
  one_location legs (PointAlong points orientation side positive) (LocatedPoint earliest latest)
      (LocatedPoint earliest' latest') is is' =
      let first = one_place _ earliest earliest' is.earliest_place is'.earliest_place in
      let last = one_place _ latest latest' is.latest_place is'.latest_place in
      rw (first, last) refl
  one_location legs _ _ _ is is' = absurd is'

  entry_of_parts : (reference : Reference) (a b : Entry) → a.key ≡ b.key → a.matched ≡ b.matched
      → IsEntryOf reference a → IsEntryOf reference b → a ≡ b
  entry_of_parts reference a b key matched is is' =
      let joined : IsJoinedRoute b.matched.legs a.route = rw (← matched) is.route in
      let lies : IsLocation b.matched.legs reference a.located = rw (← matched) is.location in
      let route = one_route _ a.route b.route joined is'.route in
      let located = one_location b.matched.legs reference a.located b.located lies is'.location in
      λ i. record { key = key i; matched = matched i; route = route i; located = located i }

  list_of_parts : (reference : Reference) (a b : List Entry) → keys_of a ≡ keys_of b
      → map (λ entry. entry.matched) a ≡ map (λ entry. entry.matched) b
      → All (IsEntryOf reference) a → All (IsEntryOf reference) b → a ≡ b
  list_of_parts reference [] [] keys matched is is' = refl
  list_of_parts reference (entry ∷ a) (entry' ∷ b) keys matched is is' =
      let first = entry_of_parts reference entry entry' (cc) (cc)
      (All-head (IsEntryOf reference) entry a is) (All-head (IsEntryOf reference) entry' b is') in
      let others = list_of_parts reference a b (cc) (cc) (All-tail (IsEntryOf reference) entry a is)
      (All-tail (IsEntryOf reference) entry' b is') in cc
  list_of_parts reference _ _ keys matched is is' = absurd (cc)

  pub one_of_parts : OneOfParts
  one_of_parts reference keys matched a b are are' =
      list_of_parts reference a b (cc) (cc) are.each are'.each

-- ---- the matching of a key

module _ (one_route : OneRoute) (one_matched : OneMatched) where
  pub one_entry : OneEntry
  one_entry road layers sound a b key is is' =
      entry_of_parts one_route layers.reference a b key (one_matched road layers b.key a.matched
      b.matched sound (rw key at is.parts) is'.parts) is.is_entry is'.is_entry

  one_list : (road : RoadMap) (layers : LayersValue) → IsSoundMap road → (a b : List Entry)
      → keys_of a ≡ keys_of b → All (IsEntryAt road layers) a → All (IsEntryAt road layers) b
      → a ≡ b
  one_list road layers sound [] [] keys is is' = refl
  one_list road layers sound (entry ∷ a) (entry' ∷ b) keys is is' =
      let first = one_entry road layers sound entry entry' (cc)
      (All-head (IsEntryAt road layers) entry a is)
      (All-head (IsEntryAt road layers) entry' b is') in
      let others = one_list road layers sound a b (cc) (All-tail (IsEntryAt road layers) entry a is)
      (All-tail (IsEntryAt road layers) entry' b is') in cc
  one_list road layers sound _ _ keys is is' = absurd (cc)

  pub one_entries : OneEntries
  one_entries road layers sound keys a b are are' =
      one_list road layers sound a b (are.keys_are ∙ sym are'.keys_are) are.each are'.each
