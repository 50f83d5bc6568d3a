-- The other path of a leg, by what the search for it came to.
use Rattle.std.proofs.Common.{◌≡◌, ℕ, ◌+◌, ◌-◌, ◌<◌, ◌≤◌, ◌↔◌, List, [], ◌∷◌, All, length, sym, inl, inr, arith, ◌∙◌}
use Rattle.std.proofs.lemmas.List.Elements.{All-cons, All-nil}
use Rattle.std.proofs.lemmas.Option.{slice_get_within}
use Rattle.olr_road.specs.RoadMap.{RoadMap}
use Rattle.olr_route.specs.Route.{IsUpTo, ids_of}
use Rattle.olr_route.specs.Walk.{AreTurns, pieces_of, walk_length}
use Rattle.olr_legs.specs.LegOnMap.{IsApartOf, IsLegOnMap, IsOtherOf}
use Rattle.olr_legs.specs.Other.{IsHardlyLonger}
use Rattle.olr_legs.specs.Seeking.{IsSoughtFor}
use Rattle.olr_legs.specs.declared.avoiding.Sought.TheVariants.{Found, Nothing as NoWay}
use Rattle.olr_legs.specs.declared.leg_on_map.LegOnMap.{LegOnMap}
use Rattle.olr_legs.specs.declared.other.Other.TheVariants.{Nothing, Path}
use Rattle.olr_legs.specs.declared.other.OtherPath.{OtherPath}
use Rattle.olr_legs.specs.declared.way.Way.{Way}

-- the lines of a walk are on the map
turns_on_map : (road : RoadMap) (line : ℕ) (behind : List ℕ) → AreTurns road line behind
    → All (λ (rank : ℕ). rank < length road.lines) behind
turns_on_map road line [] turns = All-nil (λ (rank : ℕ). rank < length road.lines)
turns_on_map road line (next ∷ behind) turns =
    All-cons (λ (rank : ℕ). rank < length road.lines) next behind
    (slice_get_within road.lines next turns.0.after turns.0.enters)
    (turns_on_map road next behind turns.1)

module _ (leg : LegOnMap) (is : IsLegOnMap leg) (near bound : ℕ)
    (bound_is : (longer : ℕ) → (leg.length + longer ≤ bound) ↔ IsHardlyLonger near leg.length longer)
  where
    abbrev long : List ℕ → ℕ
    long behind = walk_length leg.map.now leg.from leg.to behind

    pub nothing : (turns : ℕ)
        → IsSoughtFor leg.map.now leg.from leg.to (IsApartOf leg) bound turns NoWay
        → IsOtherOf leg near Nothing
    nothing turns found behind apart hardly_longer = omega (
      arith,
      found.1 behind apart,
      (bound_is (long behind - leg.length)).1 hardly_longer,
    )

    module _ (turns : ℕ) (way : Way)
        (found : IsSoughtFor leg.map.now leg.from leg.to (IsApartOf leg) bound turns (Found way)) where
      pub at_least : leg.length ≤ way.length
      at_least = omega (
        arith,
        is.least.least way.behind.items found.1.holds.is,
        found.1.long,
      )

      pub lines_on_map : All (λ (rank : ℕ). rank < length leg.map.now.lines) way.behind.items
      lines_on_map = turns_on_map leg.map.now leg.from.line way.behind.items found.1.holds.is.on.turns

      not_less : (other : List ℕ) → IsApartOf leg other
          → long way.behind.items ≤ long other
      not_less other apart = elim (found.1.first other apart) [
        | inl less ↦ omega arith
        | inr (same, up) ↦ omega arith
      ]

      not_behind : (other : List ℕ) → IsApartOf leg other
          → long other ≡ long way.behind.items
          → IsUpTo (ids_of leg.map.now way.behind.items) (ids_of leg.map.now other)
      not_behind other apart same = elim (found.1.first other apart) [
        | inl less ↦ absurd (omega arith)
        | inr (equal, up) ↦ up
      ]

      pub path_is : (one : OtherPath) → leg.length + one.longer ≡ way.length
          → one.pieces.items ≡ pieces_of leg.map.now leg.from leg.to way.behind.items
          → IsOtherOf leg near (Path one)
      path_is one longer pieces_are = record {
        behind = way.behind.items;
        is = record {
          apart = found.1.holds;
          least = not_less;
          first = not_behind;
        };
        long = found.1.long ∙ sym longer;
        hardly_longer = (bound_is one.longer).0 (omega (arith, found.1.within, longer));
        pieces_are = pieces_are;
      }
