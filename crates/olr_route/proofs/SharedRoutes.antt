-- Walks to a place: their last piece, and the one along a line alone. From another departure that
-- shares the search a walk goes over the same lines behind the first, and so does the route.
use Rattle.olr_route.proofs.Common.{IsPlace, IsDeparture, RoadMap, IsSoundMap, RoadLine, Place, Groups, Piece, Search, IsLeastLength, IsLengthWithin, HasWalksTo, rest_of_line, IsOpen, IsTurn, walk_length, pieces_of, IsDrivable, IsWalk, start_of, LeadTo, ◌≡◌, ℕ, ◌-◌, ◌<◌, ◌≤◌, List, [], ◌∷◌, Option, Some, None, inl, inr, subst, ap, sym, ◌∙◌, refl, arith, ◌+◌, MatchOption, IsRouteWithin, IsRoute, LeadOnAlike, Serves, AreOnShortestPaths, FollowsFirstTight}
use Rattle.olr_route.proofs.Lines.{length_here, long_before_turn, one_line}
use Rattle.olr_route.proofs.TightPaths.{first_route}
use Rattle.olr_route.proofs.Walks.{as_walk, behind_first, departure_length, first_open, last_piece, lead_more, rest_last, rest_more}

-- ---- walks to a place

module _ (road : RoadMap) (class : ℕ) (from to : Place) (limit : ℕ) where
  last_of : (place : Place) (rest : List ℕ) → LeadTo road class place to rest
      → (rest ≡ [] → 0 < to.at → place.at < to.at) → IsDrivable road class (last_piece to)
  last_of place [] on forwards = λ positive. subst (λ (l : ℕ). IsOpen road class l) on.ends
      (on.drivable 0 (last_piece to) (omega arith) (forwards refl positive))
  last_of place (next ∷ rest) on forwards =
      last_of (start_of next) rest (behind_first on) (λ _ positive. positive)

  -- every walk drives the last piece
  pub last_drivable : (behind : List ℕ) → IsWalk road class from to behind
      → IsDrivable road class (last_piece to)
  last_drivable behind is = last_of from behind is.on (λ none _. is.forwards none)

  -- the last piece is not let through
  pub none_through : (IsDrivable road class (last_piece to) → ⊥)
      → IsLengthWithin road class from to limit None
  none_through closed = λ behind is. absurd (closed (last_drivable behind is))

  pub least_within : (len : ℕ) → IsLeastLength road class from to len → (result : Option ℕ)
      → MatchOption result (limit < len) (λ found. (found ≡ len) × (found ≤ limit))
      → IsLengthWithin road class from to limit result
  least_within len least None past = λ behind is. omega (arith, least.least behind is)
  least_within len least (Some found) (same, within) =
      (subst (λ (m : ℕ). IsLeastLength road class from to m) (sym same) least, within)

  -- ---- ahead on one line

  module _ (same : to.line ≡ from.line) (ahead : from.at < to.at) (end : IsPlace road to)
      (drivable : IsDrivable road class (last_piece to)) where
    -- the walk that goes forwards on the line
    forwards : IsWalk road class from to []
    forwards = grind arith

    no_shorter : (other : List ℕ) → IsWalk road class from to other
        → walk_length road from to [] ≤ walk_length road from to other
    no_shorter [] is = omega arith
    no_shorter (next ∷ rest) is = grind (arith, rest_last, rest_more, length_here)

    pub along : IsLeastLength road class from to (to.at - from.at)
    along = grind (arith, forwards, rest_last, no_shorter)

    pub route_ahead : (len : ℕ) → IsLengthWithin road class from to limit (Some len)
        → IsRouteWithin road class from to limit (pieces_of road from to [])
    route_ahead len (is_least, within) = grind (arith, forwards, no_shorter)

-- ---- departures that share a search

-- a line that may follow one of them may follow the other
other_turn : (road : RoadMap) (class line other next : ℕ) → LeadOnAlike road class line other
    → IsTurn road line next → IsTurn road other next
other_turn road class line other next alike turn = record {
  before = alike.another.line;
  after = turn.after;
  leaves = alike.another.at;
  enters = turn.enters;
  meets = sym alike.meets ∙ ap (λ (l : RoadLine). l.to)
      (one_line road.lines line _ _ alike.one.at turn.leaves) ∙ turn.meets;
  allowed = alike.other_free next;
}

-- where the class limit lets the line of one place through, it lets that of the other through, and
-- the same lines may follow
abbrev MovesOn : RoadMap → ℕ → Place → Place → Type 0
MovesOn road class a b = IsOpen road class a.line → IsOpen road class b.line
    × ((next : ℕ) → IsTurn road a.line next → IsTurn road b.line next)

-- both do, and the place where the search began isn't farther from the end of its line
both_move : (road : RoadMap) (class : ℕ) (start from : Place) → Serves road class start from
    → MovesOn road class start from × MovesOn road class from start
    × (rest_of_line road start ≤ rest_of_line road from)
both_move road class start from (inl same) = grind arith
both_move road class start from (inr (alike, less)) =
    let other : LeadOnAlike road class from.line start.line =
    record {
      one = alike.another;
      another = alike.one;
      meets = sym alike.meets;
      free =
          alike.other_free;
      other_free = alike.free;
    } in (
      λ _. (alike.another, λ next. other_turn _ _ _ _ _ alike),
      λ _.
          (alike.one, λ next. other_turn _ _ _ _ _ other),
      less,
    )

module _ (road : RoadMap) (class : ℕ) (sound : IsSoundMap road) (p q : Place)
    (same : p.line ≡ q.line) (drivable : IsDrivable road class (last_piece q)) where
  -- lines that lead to a place lead to another one of its line, too
  other_end : (line : ℕ) (rest : List ℕ) → LeadTo road class (start_of line) p rest
      → LeadTo road class (start_of line) q rest
      × (walk_length road (start_of line) q rest + p.at
      ≡ walk_length road (start_of line) p rest + q.at)
  other_end line [] on = grind (arith, rest_last)
  other_end line (next ∷ rest) on =
      grind (
        arith,
        behind_first on,
        lead_more,
        first_open on (long_before_turn road line next sound on.turns.0),
        rest_more road (start_of line) p next rest,
        rest_more road (start_of line) q next rest,
        other_end next rest (behind_first on),
      )

  -- a walk that leaves the line of `a` gives one from `b`, to another place of its last line
  moved : (a b : Place) → MovesOn road class a b → IsDeparture road a → (next : ℕ) (rest : List ℕ)
      → IsWalk road class a p (next ∷ rest)
      → IsWalk road class b q (next ∷ rest)
      × (walk_length road b q (next ∷ rest) + (rest_of_line road a + p.at)
      ≡ walk_length road a p (next ∷ rest) + (rest_of_line road b + q.at))
  moved a b moves start next rest is =
      let on = moves (first_open is.on (departure_length road a start)) in
      let found = other_end next rest (behind_first is.on) in
      grind (arith, as_walk, lead_more, rest_more)

-- ---- the route

module _ (search : Search) (from to : Place) (sound : IsSoundMap search.map.now)
    (departure : IsDeparture search.map.now search.from)
    (other_departure : IsDeparture search.map.now from)
    (serves : Serves search.map.now search.class search.from from) (not_ahead : to.line ≡ from.line
    → from.at < to.at → ⊥) where
  abbrev road : RoadMap
  road = search.map.now

  abbrev class : ℕ
  class = search.class

  abbrev start : Place
  start = search.from

  abbrev limit : ℕ
  limit = search.limit

  -- A walk to the place, and the one to the start of its line from where the search began: over the
  -- same lines behind the first.
  record AreMoved (behind : List ℕ) : Type 0 where
    here : IsWalk road class from to behind
    there : IsWalk road class start (start_of to.line) behind
    lengths : walk_length road from to behind + rest_of_line road start
        ≡ walk_length road start (start_of to.line) behind + (rest_of_line road from + to.at)

  nearer : rest_of_line road start ≤ rest_of_line road from
  nearer = (both_move road class start from serves).2

  there_of : (behind : List ℕ) → IsWalk road class from to behind → AreMoved behind
  there_of [] is = absurd (not_ahead (sym is.on.ends) (is.forwards refl))
  there_of (next ∷ rest) is =
      let found = moved road class sound to (start_of to.line) refl
      (λ positive. absurd (omega arith)) from start
      (both_move road class start from serves).1 other_departure next rest is in
      record { here = is; there = found.0; lengths = omega arith }

  here_of : IsDrivable road class (last_piece to) → (behind : List ℕ)
      → IsWalk road class start (start_of to.line) behind → AreMoved behind
  here_of drivable [] is = absurd (omega (arith, is.forwards refl))
  here_of drivable (next ∷ rest) is =
      let found = moved road class sound (start_of to.line) to refl drivable start from
      (both_move road class start from serves).0 departure next rest is in
      record { here = found.0; there = is; lengths = omega arith }

  -- so the least length to the start of its line, from where the search began, tells that to the
  -- place
  pub least_moved : IsDrivable road class (last_piece to) → (len : ℕ)
      → IsLeastLength road class start (start_of to.line) len
      → IsLeastLength road class from to
      (len + ((rest_of_line road from - rest_of_line road start) + to.at))
  least_moved drivable len least =
      let both =
      here_of drivable least.behind least.is in grind (arith, nearer, moved, there_of)

  pub none_moved : IsLengthWithin road class start (start_of to.line) limit None
      → IsLengthWithin road class from to limit None
  none_moved none = grind (arith, there_of, nearer)

  -- where a walk is within the limit, the search reached the start of its last line
  known_start : (least : ℕ) → IsLengthWithin road class from to limit (Some least)
      → (known : Option ℕ) → IsLengthWithin road class start (start_of to.line) limit known
      → (len : ℕ) × (known ≡ Some len)
  known_start len (least, within) None none =
      absurd (omega (arith, none_moved none least.behind least.is))
  known_start least has (Some len) is = (len, refl)

  route_moved : (len : ℕ) → IsLengthWithin road class from to limit (Some len) → (behind : List ℕ)
      → IsRoute road class start (start_of to.line) behind
      → IsRouteWithin road class from to limit (pieces_of road from to behind)
  route_moved len (least, within) behind route =
      let both = here_of
      (last_drivable road class from to limit least.behind least.is) behind route.is in
      let longer : (other : List ℕ) → IsWalk road class from to other
      → walk_length road from to behind ≤ walk_length road from to other =
      λ other is. let moved = there_of other is in
      omega (arith, route.least other moved.there) in grind (arith, moved, there_of)

  pub route_followed : (table : ℕ → Option ℕ)
      → IsLengthWithin road class start (start_of to.line) limit (table to.line)
      → HasWalksTo road class start limit table to.line
      → (len : ℕ) → IsLengthWithin road class from to limit (Some len) → (groups : Groups)
      → AreOnShortestPaths road class table to.line groups → (pieces : List Piece)
      → FollowsFirstTight search groups from to pieces
      → IsRouteWithin road class from to limit pieces
  route_followed table told walks len has groups are pieces follows =
      let known = known_start len has (table to.line) told in
      rw follows.pieces_are (route_moved len has follows.behind
      (first_route search to.line table sound departure told walks known.0 known.1 groups are
      follows.behind follows.tight))
