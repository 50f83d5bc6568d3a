-- Walks that are apart from a leg's route, by the starts of the stretches that they may miss.
use Rattle.std.proofs.Common.{◌≡◌, ℕ, suc, ◌<◌, List, All, Option, None, Some, refl, subst, arith}
use Rattle.std.proofs.lemmas.List.Sums.{get_or-le-sum_by}
use Rattle.std.specs.Prelude.{Contains}
use Rattle.std.specs.List.{sum_by}
use Rattle.olr_road.specs.RoadMap.{RoadMap}
use Rattle.olr_road.specs.declared.place.Place.{Place}
use Rattle.olr_route.specs.Route.{IsPieceOn}
use Rattle.olr_route.specs.Steps.{IsAskedFor}
use Rattle.olr_route.specs.Walk.{last_line, pieces_of}
use Rattle.olr_route.specs.declared.piece.Piece.{Piece}
use Rattle.olr_legs.specs.Other.{IsApart}
use Rattle.olr_legs.specs.Seeking.{IsMissing, IsSoughtFor}
use Rattle.olr_legs.specs.Stretches.{IsStart}
use Rattle.olr_legs.specs.declared.avoiding.Sought.{Sought}
use Rattle.olr_legs.proofs.Merging.{alike}
use Rattle.olr_legs.proofs.Missed.{misses, start_of_missed}

-- a search that was asked for each line was asked for all
pub asked_for_all : (asked : Option (List ℕ)) → ((line : ℕ) → IsAskedFor asked line) → asked ≡ None
asked_for_all None each = refl
asked_for_all (Some lines) each =
    let one : ℕ → ℕ = λ line. line in
    let has = each (suc (sum_by one lines)) in
    absurd (omega (
      arith,
      get_or-le-sum_by one lines has.0 (suc (sum_by one lines)) has.1,
      has.2,
    ))

module _ (road : RoadMap) (class : ℕ) (from to : Place) (route : List Piece) (starts : List ℕ) where
  pub apart_of_missing : (behind : List ℕ) → IsMissing road class from to route starts behind
      → IsApart road class from to route behind
  apart_of_missing behind is = record {
    is = is.is;
    misses = misses (pieces_of road from to behind) route is.start is.missed;
  }

  pub missing_of_apart : (from.line ≡ to.line → from.at < to.at → ⊥) → All (IsPieceOn road) route
      → ((start : ℕ) → IsStart to route start → Contains starts start) → (behind : List ℕ)
      → IsApart road class from to route behind → IsMissing road class from to route starts behind
  missing_of_apart not_ahead on all behind apart =
      let found = start_of_missed road from to behind apart.is.on.ends route on apart.misses in
      record {
        is = apart.is;
        leaves_line = λ none. not_ahead
            (subst (λ (behind : List ℕ). last_line from.line behind ≡ to.line) none
            apart.is.on.ends) (apart.is.forwards none);
        start = found.0;
        among = all found.0 found.1;
        missed = found.2;
      }

  -- so the search from start to start finds the first walk that is apart
  of_starts : (bound turns : ℕ) (sought : Sought)
      → (from.line ≡ to.line → from.at < to.at → ⊥) → All (IsPieceOn road) route
      → ((start : ℕ) → IsStart to route start → Contains starts start)
      → IsSoughtFor road from to (IsMissing road class from to route starts) bound turns sought
      → IsSoughtFor road from to (IsApart road class from to route) bound turns sought
  of_starts bound turns sought not_ahead on all found = alike road from to
      (IsMissing road class from to route starts) (IsApart road class from to route) bound turns
      apart_of_missing (missing_of_apart not_ahead on all) sought found

-- the same where the search began at an equal place, under an equal limit
pub of_reach : (road : RoadMap) (class : ℕ) (from to : Place) (route : List Piece) (starts : List ℕ)
    (under : ℕ) (place : Place) (bound turns : ℕ) (sought : Sought) → under ≡ class → place ≡ from
    → (from.line ≡ to.line → from.at < to.at → ⊥) → All (IsPieceOn road) route
    → ((start : ℕ) → IsStart to route start → Contains starts start)
    → IsSoughtFor road place to (IsMissing road under place to route starts) bound turns sought
    → IsSoughtFor road from to (IsApart road class from to route) bound turns sought
of_reach road class from to route starts under place bound turns sought same_class same_from
    not_ahead on all found =
    of_starts road class from to route starts bound turns sought not_ahead on all
    (subst (λ (place : Place). IsSoughtFor road place to
    (IsMissing road class place to route starts) bound turns sought) same_from
    (subst (λ (class : ℕ). IsSoughtFor road place to
    (IsMissing road class place to route starts) bound turns sought) same_class found))
