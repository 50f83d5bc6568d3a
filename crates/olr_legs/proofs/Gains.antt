-- When a least length is markedly shorter than the length of a leg.
use Rattle.std.proofs.Common.{◌≡◌, ℕ, ◌+◌, ◌-◌, ◌*◌, ◌<◌, ◌≤◌, ◌↔◌, arith}
use Rattle.std.proofs.lemmas.Bool.{cases_eq}
use Rattle.std.proofs.Common.{inl, inr, subst}
use Rattle.olr_road.specs.RoadMap.{RoadMap}
use Rattle.olr_road.specs.declared.place.Place.{Place}
use Rattle.olr_route.specs.Least.{HasNoWalkWithin, IsLeastLength}
use Rattle.olr_legs.specs.Shorter.{IsShorterUnder}

module _ (road : RoadMap) (from to : Place) (length gain : ℕ)
    (is : (by : ℕ) → (gain ≤ by) ↔ ((100 ≤ by) × (length ≤ 100 * by))) where
  enough : (class by : ℕ) → IsShorterUnder road from to length class by → gain ≤ by
  enough class by shorter = (is by).1 (shorter.at_least, shorter.share)

  -- a leg that is shorter than the least gain can't be shorter by that
  pub none_at_all : (gain ≤ length → ⊥) → (class by : ℕ)
      → IsShorterUnder road from to length class by → ⊥
  none_at_all less class by shorter =
      less (omega (arith, enough class by shorter, shorter.less))

  module _ (most class : ℕ) (most_is : most + gain ≡ length) where
    pub none_within : HasNoWalkWithin road class from to most → (by : ℕ)
        → IsShorterUnder road from to length class by → ⊥
    none_within none by shorter = omega (
      arith,
      enough class by shorter,
      shorter.less,
      none shorter.is_least.behind shorter.is_least.is,
      shorter.is_least.long,
    )

    pub is_shorter : (least : ℕ) → IsLeastLength road class from to least → least ≤ most
        → IsShorterUnder road from to length class (length - least)
    is_shorter least is_least within =
        let both = (is (length - least)).0 (omega arith) in record {
          least = least;
          is_least = is_least;
          less = omega arith;
          at_least = both.0;
          share = both.1;
        }

    -- so far none, and none under this class: none up to the next one
    pub none_up_to : (limit : ℕ) → ((other by : ℕ) → limit < other → other < class
        → IsShorterUnder road from to length other by → ⊥) → HasNoWalkWithin road class from to most
        → (other by : ℕ) → limit < other → other < class + 1
        → IsShorterUnder road from to length other by → ⊥
    none_up_to limit before none other by above below shorter = elim (cases_eq other class) [
      | inl same ↦ none_within none by
          (subst (λ (class : ℕ). IsShorterUnder road from to length class by) same shorter)
      | inr differs ↦ before other by above (omega arith) shorter
    ]
