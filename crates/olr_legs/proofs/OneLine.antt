-- A leg over one line alone has no other path: each walk drives all of its route.
use Rattle.std.proofs.Common.{◌≡◌, ℕ, ◌<◌, ◌≤◌, true, false, List, [], ◌∷◌, ◌++◌, refl, ap, subst, ◌∙◌, inl, inr, arith}
use Rattle.std.proofs.lemmas.Bool.{or_cases, or_left}
use Rattle.std.proofs.lemmas.List.Elements.{All-cons, All-head, All-nil}
use Rattle.std.proofs.lemmas.List.Sums.{sum_by-cons}
use Rattle.std.specs.Prelude.{Contains}
use Rattle.olr_places.proofs.CloseLaws.{computed, covered_is, is_covered, none_missing}
use Rattle.olr_places.specs.Missing.{covers, has_step, missing_of}
use Rattle.olr_report.specs.Steps.{Step, steps_of}
use Rattle.olr_road.specs.Place.{IsPlace}
use Rattle.olr_road.specs.RoadMap.{IsSoundMap, RoadMap}
use Rattle.olr_road.specs.declared.place.Place.{Place}
use Rattle.olr_route.specs.Route.{IsRoute, IsRouteWithin}
use Rattle.olr_route.specs.Walk.{IsDrivable, IsWalk, length_at, piece_length, pieces_from, pieces_of, walk_length}
use Rattle.olr_route.specs.declared.piece.Piece.{Piece}
use Rattle.olr_legs.specs.Other.{IsApart}
use Rattle.olr_legs.specs.Stretches.{least_missed}
use Rattle.olr_legs.proofs.Steps.{has_from, has_parts}

-- no walk is a beginning of another one of the same length
abbrev pub NoBeginning : Type 0
NoBeginning = (road : RoadMap) (class : ℕ) (from to : Place) (behind more : List ℕ)
    → IsSoundMap road → IsPlace road to → IsWalk road class from to behind
    → IsWalk road class from to (behind ++ more)
    → walk_length road from to (behind ++ more) ≡ walk_length road from to behind → more ≡ []

module _ (road : RoadMap) (class : ℕ) (from to : Place) (sound : IsSoundMap road)
    (place : IsPlace road to) (same : from.line ≡ to.line) (ahead : from.at < to.at) where
  inside : to.at ≤ length_at road from.line
  inside = rw (same, place.at_rank) place.up_to_end

  -- the piece from one place to the other
  abbrev piece : Piece
  piece = record { line = from.line; from = from.at; to = to.at }

  -- ---- the route is this piece

  rest_of : (next : ℕ) (rest : List ℕ) → walk_length road from to []
      ≤ walk_length road from to (next ∷ rest)
  rest_of next rest =
      let first : Piece = record {
        line = from.line;
        from = from.at;
        to = length_at road from.line;
      } in
      omega (
        arith,
        inside,
        sum_by-cons piece_length first (pieces_from road next 0 rest to.at),
        sum_by-cons piece_length piece [],
      )

  straight : (next : ℕ) (rest : List ℕ) → IsWalk road class from to (next ∷ rest)
      → IsWalk road class from to []
  straight next rest is = record {
    on = record {
      turns = tt;
      ends = same;
      drivable = All-cons (IsDrivable road class) piece [] (λ forwards.
          All-head (IsDrivable road class) _ (pieces_from road next 0 rest to.at) is.on.drivable
          (omega (arith, inside))) (All-nil (IsDrivable road class));
    };
    forwards = λ none. ahead;
  }

  is_straight : NoBeginning → (behind : List ℕ) → IsRoute road class from to behind → behind ≡ []
  is_straight law [] is = refl
  is_straight law (next ∷ rest) is =
      let walk = straight next rest is.is in
      law road class from to [] (next ∷ rest) sound place walk is.is
      (omega (arith, rest_of next rest, is.least [] walk))

  -- ---- each walk drives it

  drives : (behind : List ℕ) (step : Step) → has_step step piece ≡ true
      → covers (pieces_of road from to behind) step ≡ true
  drives [] step is = or_left (has_step step piece) false is
  drives (next ∷ rest) step is =
      let parts = has_parts step piece is in
      let first : Piece = record {
        line = from.line;
        from = from.at;
        to = length_at road from.line;
      } in
      or_left (has_step step first) (covers (pieces_from road next 0 rest to.at) step)
      (has_from step first parts.0 parts.1 (omega (arith, inside, parts.2)))

  all_driven : (behind : List ℕ) (step : Step) → Contains (steps_of (piece ∷ [])) step
      → Contains (steps_of (pieces_of road from to behind)) step
  all_driven behind step has =
      elim (or_cases (has_step step piece) false (is_covered (piece ∷ []) step has)) [
        | inl here ↦ covered_is (pieces_of road from to behind) step (drives behind step here)
        | inr none ↦ absurd (cc)
      ]

  pub none_apart : NoBeginning → (limit : ℕ) (route : List Piece)
      → IsRouteWithin road class from to limit route → (behind : List ℕ)
      → IsApart road class from to route behind → ⊥
  none_apart law limit route is behind apart =
      let route_is : route ≡ piece ∷ [] = is.pieces_are
      ∙ ap (pieces_of road from to) (is_straight law is.behind is.is) in
      let walk = pieces_of road from to behind in
      let much : least_missed ≤ missing_of walk (piece ∷ []) =
      subst (λ (route : List Piece). least_missed ≤ missing_of walk route) route_is apart.misses in
      let found = computed walk (piece ∷ []) in
      omega (
        arith,
        much,
        found.length_is,
        none_missing (steps_of walk) (steps_of (piece ∷ [])) (all_driven behind) found.longest
            found.is_run,
      )
