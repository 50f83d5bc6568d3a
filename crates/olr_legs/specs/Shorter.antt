-- The least class above a leg's limit under which the leg would be markedly shorter. (What counts as
-- markedly is this project's choice.) Lengths are in decimetres.
use Rattle.std.specs.Prelude.{◌≡◌, ℕ, ◌+◌, ◌*◌, ◌<◌, ◌≤◌, Option, MatchOption}
use Rattle.olr_road.specs.RoadMap.{RoadMap}
use Rattle.olr_road.specs.declared.place.Place.{Place}
use Rattle.olr_route.specs.Least.{IsLeastLength}
use Rattle.olr_legs.specs.declared.shorter.Shorter.{Shorter}

module _ (road : RoadMap) (from to : Place) (length : ℕ) where
  -- Under a class limit the least length is by so much less than this length: by at least 100, and
  -- by at least a hundredth of it.
  pub record IsShorterUnder (class by : ℕ) : Type 0 where
    pub least : ℕ
    pub is_least : IsLeastLength road class from to least
    pub less : least + by ≡ length
    pub at_least : 100 ≤ by
    pub share : length ≤ 100 * by

  -- the least class above the limit, of classes up to 7, under which it is, if there is one
  abbrev pub IsFirstShorter : ℕ → Option Shorter → Type 0
  IsFirstShorter limit answer = MatchOption answer
      ((class by : ℕ) → limit < class → class ≤ 7 → IsShorterUnder class by → ⊥)
      (λ shorter. (limit < shorter.class) × (shorter.class ≤ 7)
      × IsShorterUnder shorter.class shorter.by
      × ((class by : ℕ) → limit < class → class < shorter.class → IsShorterUnder class by → ⊥))
