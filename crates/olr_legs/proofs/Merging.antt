-- What two searches came to together.
use Rattle.std.proofs.Common.{◌≡◌, ℕ, ◌≤◌, ◌⊎◌, List, sym, subst, inl, inr, arith, ◌∙◌}
use Rattle.std.proofs.lemmas.Bool.{cases_lt}
use Rattle.olr_road.specs.RoadMap.{IsSoundMap, RoadMap}
use Rattle.olr_road.specs.declared.place.Place.{Place}
use Rattle.olr_route.specs.Route.{ids_of}
use Rattle.olr_route.specs.Walk.{AreTurns, walk_length}
use Rattle.olr_legs.specs.Avoiding.{IsAvoiding, IsSought, most_turns}
use Rattle.olr_legs.specs.Seeking.{IsBoth, IsFirstOf, IsFirstWithin, IsNotBehind, IsSoughtFor, next_bound}
use Rattle.olr_legs.specs.Way.{IsUpToWay}
use Rattle.olr_legs.specs.declared.avoiding.Sought.{Sought}
use Rattle.olr_legs.specs.declared.avoiding.Sought.TheVariants.{Cut, Nothing, Found}
use Rattle.olr_legs.specs.declared.way.Way.{Way}
use Rattle.olr_legs.proofs.Ids.{ids_up_to}
use Rattle.olr_legs.proofs.Ways.{up_to_trans}
use Rattle.olr_route.specs.declared.piece.Piece.{Piece}

-- ---- the order of walks

not_behind_trans : (road : RoadMap) (from to : Place) (a b c : List ℕ)
    → IsNotBehind road from to a b → IsNotBehind road from to b c → IsNotBehind road from to a c
not_behind_trans road from to a b c (inl less) (inl next) = inl (omega arith)
not_behind_trans road from to a b c (inl less) (inr (same, up)) = inl (omega arith)
not_behind_trans road from to a b c (inr (same, up)) (inl less) = inl (omega arith)
not_behind_trans road from to a b c (inr (same, up)) (inr (equal, next)) =
    inr (same ∙ equal, up_to_trans (ids_of road a) (ids_of road b) (ids_of road c) up next)

module _ (road : RoadMap) (from to : Place) where
  -- ---- one search

  module _ (Holds Other : List ℕ → Type 0) (bound turns : ℕ)
      (there : (behind : List ℕ) → Holds behind → Other behind)
      (back : (behind : List ℕ) → Other behind → Holds behind) where
    -- the same is sought
    pub alike : (sought : Sought) → IsSoughtFor road from to Holds bound turns sought
        → IsSoughtFor road from to Other bound turns sought
    alike Cut is = is
    alike Nothing is = (is.0, λ behind holds. is.1 behind (back behind holds))
    alike (Found way) is = (
      is.0,
      record {
        holds = there way.behind.items is.1.holds;
        long = is.1.long;
        within = is.1.within;
        first = λ other holds. is.1.first other (back other holds);
      },
    )

  -- what the search for walks that avoid pieces came to
  pub of_sought : (class : ℕ) (shut : List Piece) (bound turns : ℕ) (sought : Sought)
      → IsSought road class from to shut bound turns sought
      → IsSoughtFor road from to (IsAvoiding road class from to shut) bound turns sought
  of_sought class shut bound turns Cut is = is
  of_sought class shut bound turns Nothing is = is
  of_sought class shut bound turns (Found way) is = (
    is.0,
    record {
      holds = is.1.is;
      long = is.2;
      within = omega (arith, is.1.within, is.2);
      first = λ other holds. elim (cases_lt (walk_length road from to way.behind.items)
          (walk_length road from to other)) [
            | inl less ↦ inl less
            | inr not_less ↦
                let least = is.1.least other holds in
                let same : walk_length road from to other
                ≡ walk_length road from to way.behind.items = omega arith in
                inr (sym same, is.1.first other holds same)
          ];
    },
  )

  -- ---- two searches

  module _ (One Other Both : List ℕ → Type 0) (bound : ℕ) (sound : IsSoundMap road)
      (split : (behind : List ℕ) → Both behind → One behind ⊎ Other behind)
      (of_one : (behind : List ℕ) → One behind → Both behind)
      (of_other : (behind : List ℕ) → Other behind → Both behind)
      (turns : (behind : List ℕ) → Both behind → AreTurns road from.line behind) where
    -- a way that isn't behind another one by ranks isn't by ids
    by_way : (a b : Way) → walk_length road from to a.behind.items ≡ a.length
        → walk_length road from to b.behind.items ≡ b.length → Both a.behind.items
        → Both b.behind.items
        → IsUpToWay a.length a.behind.items b.length b.behind.items
        → IsNotBehind road from to a.behind.items b.behind.items
    by_way a b long_a long_b both_a both_b (inl less) = inl (omega arith)
    by_way a b long_a long_b both_a both_b (inr (same, up)) = inr (
      long_a ∙ same ∙ sym long_b,
      ids_up_to road sound from.line from.line a.behind.items b.behind.items
          (turns a.behind.items both_a) (turns b.behind.items both_b) up,
    )

    first_of_both : (one other way : Way) → IsFirstWithin road from to One bound one
        → IsFirstWithin road from to Other one.length other → IsFirstOf one other way
        → IsFirstWithin road from to Both bound way
    first_of_both one other way first second is =
        let both_one = of_one one.behind.items first.holds in
        let both_other = of_other other.behind.items second.holds in
        let mine : Both way.behind.items × (walk_length road from to way.behind.items ≡ way.length)
        × (way.length ≤ bound) = elim is.either [
          | inl same ↦ subst (λ (way : Way). Both way.behind.items
              × (walk_length road from to way.behind.items ≡ way.length) × (way.length ≤ bound))
              (sym same) (both_one, first.long, first.within)
          | inr same ↦ subst (λ (way : Way). Both way.behind.items
              × (walk_length road from to way.behind.items ≡ way.length) × (way.length ≤ bound))
              (sym same) (both_other, second.long, omega (arith, first.within, second.within))
        ] in
        record {
          holds = mine.0;
          long = mine.1;
          within = mine.2;
          first = λ next holds. elim (split next holds) [
            | inl by_one ↦ not_behind_trans road from to way.behind.items one.behind.items next
                (by_way way one mine.1 first.long mine.0 both_one is.up_to_one) (first.first next by_one)
            | inr by_other ↦ not_behind_trans road from to way.behind.items other.behind.items next
                (by_way way other mine.1 second.long mine.0 both_other is.up_to_other)
                (second.first next by_other)
          ];
        }

    pub both_sought : (before after : ℕ) (first second both : Sought) → before ≤ most_turns
        → IsSoughtFor road from to One bound before first
        → IsSoughtFor road from to Other (next_bound bound first) after second
        → IsBoth first second both → IsSoughtFor road from to Both bound after both
    both_sought before after Cut second both few one other is = absurd (omega arith)
    both_sought before after first Cut both few one other is =
        subst (IsSoughtFor road from to Both bound after) (sym is) other
    both_sought before after Nothing Nothing both few one other is =
        subst (IsSoughtFor road from to Both bound after) (sym is) (
          other.0,
          λ behind holds. elim (split behind holds) [
            | inl by_one ↦ one.1 behind by_one
            | inr by_other ↦ other.1 behind by_other
          ],
        )
    both_sought before after Nothing (Found way) both few one other is =
        subst (IsSoughtFor road from to Both bound after) (sym is) (
          other.0,
          record {
            holds = of_other way.behind.items other.1.holds;
            long = other.1.long;
            within = other.1.within;
            first = λ next holds. elim (split next holds) [
              | inl by_one ↦ inl (omega (arith, one.1 next by_one, other.1.within, other.1.long))
              | inr by_other ↦ other.1.first next by_other
            ];
          },
        )
    both_sought before after (Found way) Nothing both few one other is =
        subst (IsSoughtFor road from to Both bound after) (sym is) (
          other.0,
          record {
            holds = of_one way.behind.items one.1.holds;
            long = one.1.long;
            within = one.1.within;
            first = λ next holds. elim (split next holds) [
              | inl by_one ↦ one.1.first next by_one
              | inr by_other ↦ inl (omega (arith, other.1 next by_other, one.1.long))
            ];
          },
        )
    both_sought before after (Found way) (Found next) both few one other is =
        subst (IsSoughtFor road from to Both bound after) (sym is.2)
        (other.0, first_of_both way next is.0 one.1 other.1 is.1)
