-- Walks of least length to the start of a line are just the tight paths to it. Taking the first
-- tight turn again and again gives the first of them by the ids of its lines, and its pieces.
use Rattle.olr_route.proofs.Common.{IsDeparture, RoadMap, IsSoundMap, Place, Piece, length_at, pieces_of, walk_length, IsWalk, start_of, LeadTo, IsLeastLength, IsLengthWithin, HasWalksTo, ReachesStart, rest_of_line, Groups, Search, ◌≡◌, ℕ, zero, suc, ◌+◌, ◌<◌, ◌≤◌, List, [], ◌∷◌, Option, Some, None, ap, ◌∙◌, refl, arith, ◌++◌, length, get_or, IsTightPath, AreFirstTight, AreGroups, FollowsFirstTight, IsFirstTight, AreOnShortestPaths, IsTightIn, append_assoc, length-map, line_ids, cases_lt, slice_get-map, unwrap_or-slice_get, slice_get_within, id_at, ids_of, IsRoute, IsUpTo}
use Rattle.olr_route.proofs.Lines.{long_before_turn, long_at}
use Rattle.olr_route.proofs.Walks.{as_walk, at_once, behind_first, first_open, lead_more, long_walk, rest_last, rest_more}
pub use Rattle.olr_route.proofs.Walks.{departure_length}
use Rattle.olr_route.proofs.Relaxing.{same_length}
use Rattle.std.proofs.lemmas.Map.Keys.{below_from_sorted, sorted_from_strictly_increasing}

-- ids rise with ranks
id_is : (road : RoadMap) (rank : ℕ) → id_at road rank ≡ get_or (line_ids road.lines) rank 0
id_is road rank = grind (arith, slice_get-map, unwrap_or-slice_get (line_ids road.lines) rank 0)

pub ids_rise : (road : RoadMap) (a b : ℕ) → IsSoundMap road → a < b → b < length road.lines
    → id_at road a < id_at road b
ids_rise road a b sound less inside =
    grind (arith, id_is, length-map, below_from_sorted, sorted_from_strictly_increasing)

-- ---- walks of least length and tight paths

module _ (search : Search) (target : ℕ) (table : ℕ → Option ℕ) (sound : IsSoundMap search.map.now)
    (start : IsDeparture search.map.now search.from)
    (told : IsLengthWithin search.map.now search.class search.from (start_of target) search.limit
    (table target))
    (walks : HasWalksTo search.map.now search.class search.from search.limit table target)
    (least : ℕ) (reached_target : table target ≡ Some least) where
  abbrev road : RoadMap
  road = search.map.now

  abbrev class : ℕ
  class = search.class

  abbrev from : Place
  from = search.from

  at_target : IsLeastLength road class from (start_of target) least × (least ≤ search.limit)
  at_target = rw reached_target at told

  is_least : IsLeastLength road class from (start_of target) least
  is_least = at_target.0

  abbrev Path : Place → ℕ → List ℕ → Type 0
  Path place len rest = IsTightPath road class table target place len rest

  -- these lines lead from a place to the target, and that makes up the least length
  abbrev LeadOn : Place → ℕ → List ℕ → Type 0
  LeadOn place len rest = LeadTo road class place (start_of target) rest
      × (len + walk_length road place (start_of target) rest ≡ least)

  lead_behind : (place : Place) (len next : ℕ) (rest : List ℕ) → LeadOn place len (next ∷ rest)
      → LeadOn (start_of next) (len + rest_of_line road place) rest
  lead_behind place len next rest (on, long) =
      (behind_first on, omega (arith, rest_more road place (start_of target) next rest))

  -- ---- each line of a least walk is reached after the least length

  exact : (n line len : ℕ) (rest : List ℕ) → ReachesStart road class from n line len
      → LeadOn (start_of line) len rest → table line ≡ Some len
  exact n line len rest reaches (on, long) =
      walks n line len rest reaches on least is_least long at_target.1

  tight_from : (n line len : ℕ) (rest : List ℕ) → ReachesStart road class from n line len
      → LeadOn (start_of line) len rest → (table line ≡ Some len) × Path (start_of line) len rest
  tight_from n line len [] reaches on = grind (arith, exact)
  tight_from n line len (next ∷ rest) reaches on =
      let turn = on.0.turns.0 in
      let clear = first_open on.0 (long_before_turn _ _ _ sound turn) in
      let later = tight_from (suc n) next (len + rest_of_line road (start_of line)) rest
      (line, len, reaches, clear, turn, omega arith)
      (lead_behind (start_of line) len next rest on) in (
        exact n line len (next ∷ rest) reaches on,
        (record { clear = clear; turn = turn; least = later.0 }, later.1),
      )

  walk_tight : (behind : List ℕ) → IsWalk road class from (start_of target) behind
      → walk_length road from (start_of target) behind ≡ least → Path from 0 behind
  walk_tight [] is long = absurd (omega (arith, is.forwards refl))
  walk_tight (next ∷ rest) is long =
      let clear = first_open is.on (departure_length _ _ start) in
      let later = tight_from zero next (0 + rest_of_line road from) rest
      (clear, is.on.turns.0, omega arith)
      (lead_behind from 0 next rest (is.on, omega arith)) in
      (record { clear = clear; turn = is.on.turns.0; least = later.0 }, later.1)

  -- ---- and the other way round

  rest_of : (place : Place) (len : ℕ) (rest : List ℕ) → Path place len rest → LeadOn place len rest
  rest_of place len [] (here, known) = grind (arith, at_once, same_length, rest_last)
  rest_of place len (next ∷ rest) (tight, on) =
      let behind = rest_of (start_of next) (len + rest_of_line road place) rest on in (
        lead_more _ tight.clear tight.turn behind.0,
        omega (arith, rest_more road place (start_of target) next rest),
      )

  tight_walk : (behind : List ℕ) → Path from 0 behind
      → IsWalk road class from (start_of target) behind
      × (walk_length road from (start_of target) behind ≡ least)
  tight_walk [] (here, known) = grind (arith, same_length, is_least, long_walk)
  tight_walk (next ∷ rest) path = let found = rest_of _ 0 (next ∷ rest) path in
      (as_walk found.0, omega arith)

  -- ---- the first of them by the ids of their lines

  module _ (groups : Groups) (are : AreOnShortestPaths road class table target groups) where
    -- these lines are a tight path to the target, and the first one by ids
    record IsFirst (place : Place) (len : ℕ) (rest : List ℕ) : Type 0 where
      on : Path place len rest
      first : (other : List ℕ) → Path place len other
          → IsUpTo (ids_of road rest) (ids_of road other)

    to_tight : (place : Place) (len next : ℕ) (rest : List ℕ) → Path place len (next ∷ rest)
        → IsTightIn search groups place len next
    to_tight place len next rest (tight, on) = grind arith

    compare : (place : Place) (len next : ℕ) (rest : List ℕ) → 0 < rest_of_line road place
        → ((other : ℕ) → IsTightIn search groups place len other → next ≤ other)
        → IsFirst (start_of next) (len + rest_of_line road place) rest → (others : List ℕ)
        → Path place len others → IsUpTo (ids_of road (next ∷ rest)) (ids_of road others)
    compare place len next rest further lowest behind [] (here, known) =
        grind (arith, rest_of, same_length)
    compare place len next rest further lowest behind (other ∷ others) (tight, on) =
        grind (arith, cases_lt, ids_rise, slice_get_within, to_tight)

    first_of : (place : Place) (len : ℕ) (rest : List ℕ)
        → ((next : ℕ) → IsTightIn search groups place len next → 0 < rest_of_line road place)
        → AreFirstTight search groups place len rest → (some : List ℕ) → Path place len some
        → IsFirst place len rest
    first_of place len [] further none [] on = record { on = on; first = λ other _. tt }
    first_of place len [] further none (next ∷ rest) on =
        absurd (none next (to_tight place len next rest on))
    first_of place len (next ∷ rest) further ((tight, lowest), later) some on =
        let known = (are.only tight.least.0 (len + rest_of_line road place) next tight.least.1).1 in
        let behind =
        first_of (start_of next) (len + rest_of_line road place) rest
        (λ other is. omega (arith, long_before_turn road next other sound is.turn)) later
        known.1.0 known.1.1 in
        record {
          on =
              (record { clear = tight.clear; turn = tight.turn; least = known.0 }, behind.on);
          first =
              compare place len next rest (further next tight) lowest behind;
        }

    pub first_route : (behind : List ℕ) → AreFirstTight search groups from 0 behind
        → IsRoute road class from (start_of target) behind
    first_route behind tight =
        let found =
        first_of from 0 behind (λ next is. omega (arith, departure_length road from start)) tight
        is_least.behind (walk_tight is_least.behind is_least.is is_least.long) in
        let made = tight_walk behind found.on in grind (arith, is_least, walk_tight)

-- ---- the pieces of the walk that takes the first tight turn again and again

module _ (search : Search) (groups : Groups) (from to : Place) where
  -- The search has come to a place, and the pieces so far up to `begin` on its line. With the
  -- pieces of the first tight turns from there on they are those of the first tight turns from the
  -- start.
  pub record IsFollowing (pieces : List Piece) (place begin : Place) (len : ℕ) : Type 0 where
    pub start : IsDeparture search.map.now place
    pub begins : IsDeparture search.map.now begin
    pub within : len ≤ search.limit
    pub goes : (rest : List ℕ) → AreFirstTight search groups place len rest
        → (behind : List ℕ) × AreFirstTight search groups search.from 0 behind
        × (pieces ++ pieces_of search.map.now begin to rest
        ≡ pieces_of search.map.now from to behind)

  module _ (sound : IsSoundMap search.map.now) (are : AreGroups search groups) (pieces : List Piece)
      (place begin : Place) (len next : ℕ)
      (following : IsFollowing pieces place begin len)
      (first : IsFirstTight search groups place len (Some next)) where
    pub next_within : len + rest_of_line search.map.now place ≤ search.limit
    next_within =
        (are first.0.least.0 (len + rest_of_line search.map.now place) next first.0.least.1).1

    pub following_more : (piece : Piece)
        → piece ≡ record {
          line = begin.line;
          from = begin.at;
          to =
              length_at search.map.now begin.line;
        }
        → IsFollowing (pieces ++ piece ∷ []) (start_of next) (start_of next)
        (len + rest_of_line search.map.now place)
    following_more piece is =
        let departure : IsDeparture search.map.now (start_of next) =
        record {
          line = first.0.turn.after;
          at_rank = first.0.turn.enters;
          before_end =
              long_at search.map.now next first.0.turn.after sound first.0.turn.enters;
        } in
        record {
          start = departure;
          begins = departure;
          within = next_within;
          goes = λ rest tight. let found = following.goes (next ∷ rest) (first, tight) in (
            found.0,
            found.1,
            append_assoc pieces (piece ∷ []) (pieces_of search.map.now (start_of next) to rest)
                ∙ ap (λ (p : Piece). pieces ++ p ∷ pieces_of search.map.now (start_of next) to rest)
                is ∙ found.2,
          );
        }

  pub following_over : (pieces : List Piece) (place begin : Place) (len : ℕ)
      → IsFollowing pieces place begin len → IsFirstTight search groups place len None
      → FollowsFirstTight search groups from to
      (pieces ++ record { line = begin.line; from = begin.at; to = to.at } ∷ [])
  following_over pieces place begin len following none = let found = following.goes [] none in
      record { behind = found.0; tight = found.1; pieces_are = found.2 }
