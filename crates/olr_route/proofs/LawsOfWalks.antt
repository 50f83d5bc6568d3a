-- What holds of all walks, and of the pieces of a route.
use Rattle.olr_route.proofs.Common.{IsPlace, IsDeparture, IsSoundMap, RoadMap, Place, Piece, length_at, walk_length, IsWalk, start_of, IsLeastLength, RoadLine, ◌≡◌, ℕ, ◌<◌, ◌≤◌, List, [], ◌∷◌, ◌++◌, length, refl, arith, Some, slice_get_within, AreTurns, last_line, pieces_from, id_at, ids_of, IsRoute, IsUpTo, IsRouteWithin, IsPieceOn, AreJoined, AreRoutePieces, slice_get, All, All-cons}
use Rattle.olr_route.proofs.Lines.{length_here, long_before_turn}
use Rattle.olr_route.proofs.TightPaths.{ids_rise}
use Rattle.olr_route.proofs.Walks.{long_walk, rest_last, rest_more}

-- ---- lengths

pub least_once : (road : RoadMap) (class : ℕ) (from to : Place) (a b : ℕ)
    → IsLeastLength road class from to a → IsLeastLength road class from to b → a ≡ b
least_once road class from to a b is other =
    omega (arith, is.least other.behind other.is, other.least is.behind is.is)

-- ---- a walk that goes on is longer

module _ (road : RoadMap) (sound : IsSoundMap road) (to : Place) (end : IsPlace road to) where
  -- what follows a walk ends at the place too
  rest_ends : (line : ℕ) (rest : List ℕ) → last_line line rest ≡ to.line
      → to.at ≤ walk_length road (start_of line) to rest
  rest_ends line [] ends = omega (arith, rest_last road (start_of line) to)
  rest_ends line (next ∷ rest) ends =
      omega (arith, rest_more road (start_of line) to next rest, rest_ends next rest ends)

  longer : (place : Place) (behind : List ℕ) (next : ℕ) (more : List ℕ)
      → AreTurns road place.line (behind ++ next ∷ more) → last_line place.line behind ≡ to.line
      → last_line place.line (behind ++ next ∷ more) ≡ to.line → (behind ≡ [] → place.at ≤ to.at)
      → walk_length road place to behind < walk_length road place to (behind ++ next ∷ more)
  longer place [] next more (turn, turns) ends ends_more before =
      grind (
        arith,
        length_here road to.line end.line end.at_rank,
        long_before_turn road place.line next sound turn,
        rest_last road place to,
        rest_more road place to next more,
        rest_ends next more ends_more,
      )
  longer place (first ∷ behind) next more (turn, turns) ends ends_more before =
      omega (
        arith,
        rest_more road place to first behind,
        rest_more road place to first (behind ++ next ∷ more),
        longer (start_of first) behind next more turns ends ends_more (λ _. omega arith),
      )

pub no_beginning : (road : RoadMap) (class : ℕ) (from to : Place) (behind more : List ℕ)
    → IsSoundMap road → IsPlace road to → IsWalk road class from to behind
    → IsWalk road class from to (behind ++ more)
    → walk_length road from to (behind ++ more) ≡ walk_length road from to behind → more ≡ []
no_beginning road class from to behind [] sound end is other same = refl
no_beginning road class from to behind (next ∷ more) sound end is other same = grind (arith, longer)

-- ---- one route

module _ (road : RoadMap) (sound : IsSoundMap road) where
  same_id : (a b : ℕ) → a < length road.lines → b < length road.lines → id_at road a ≡ id_at road b
      → a ≡ b
  same_id a b a_inside b_inside same = grind (arith, ids_rise)

  same_walk : (line other : ℕ) (a b : List ℕ) → AreTurns road line a → AreTurns road other b
      → IsUpTo (ids_of road a) (ids_of road b) → IsUpTo (ids_of road b) (ids_of road a) → a ≡ b
  same_walk line other [] [] turns others up down = refl
  same_walk line other [] (y ∷ b) turns others up down = absurd down
  same_walk line other (x ∷ a) [] turns others up down = absurd up
  same_walk line other (x ∷ a) (y ∷ b) (turn, turns) (next, others) up down =
      grind (arith, same_id, slice_get_within, same_walk x y a b turns others)

  pub route_once : (class : ℕ) (from to : Place) (a b : List ℕ) → IsRoute road class from to a
      → IsRoute road class from to b → a ≡ b
  route_once class from to a b is other = grind (arith, same_walk)

-- ---- the pieces of a route

module _ (road : RoadMap) (to : Place) (end : IsPlace road to) where
  all_on : (line at : ℕ) (here : RoadLine) (behind : List ℕ) → slice_get road.lines line ≡ Some here
      → at ≤ here.length → AreTurns road line behind → last_line line behind ≡ to.line
      → (behind ≡ [] → at ≤ to.at) → All (IsPieceOn road) (pieces_from road line at behind to.at)
  all_on line at here [] is before turns ends forwards = grind arith
  all_on line at here (next ∷ behind) is before (turn, turns) ends forwards =
      All-cons (IsPieceOn road) (record { line = line; from = at; to = length_at road line })
      (pieces_from road next 0 behind to.at)
      (record {
        line = here;
        at_rank = is;
        forwards = omega (arith, length_here road line here is);
        up_to_end = omega (arith, length_here road line here is);
      }) (all_on next 0 turn.after behind turn.enters (omega arith) turns ends (λ _. omega arith))

  all_joined : (line at : ℕ) (behind : List ℕ) → AreTurns road line behind
      → AreJoined road (pieces_from road line at behind to.at)
  all_joined line at [] turns = tt
  all_joined line at (next ∷ []) (turn, turns) = (refl, turn, refl, tt)
  all_joined line at (next ∷ other ∷ behind) (turn, turns) =
      (refl, turn, refl, all_joined next 0 (other ∷ behind) turns)

pub are_route_pieces : (road : RoadMap) (class : ℕ) (from to : Place) (limit : ℕ)
    (pieces : List Piece) → IsSoundMap road → IsDeparture road from → IsPlace road to
    → IsRouteWithin road class from to limit pieces → AreRoutePieces road class from to pieces
are_route_pieces road class from to limit pieces sound start end is =
    grind (arith, all_on, all_joined, long_walk)
