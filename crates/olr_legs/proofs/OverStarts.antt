-- The search for the first walk that misses a stretch, start by start.
use Rattle.std.proofs.Common.{◌≡◌, ℕ, ◌+◌, ◌<◌, ◌≤◌, ◌⊎◌, List, [], ◌∷◌, ◌++◌, length, get_or, take, refl, sym, subst, inl, inr, arith}
use Rattle.std.proofs.lemmas.List.Elements.{Contains-append_cases, Contains-append_left, Contains-append_right}
use Rattle.std.proofs.lemmas.List.{take_more}
use Rattle.std.specs.Prelude.{Contains}
use Rattle.olr_report.proofs.StepLists.{length-steps_of}
use Rattle.olr_report.specs.Steps.{steps_of}
use Rattle.olr_road.specs.RoadMap.{IsSoundMap, RoadMap}
use Rattle.olr_road.specs.declared.place.Place.{Place}
use Rattle.olr_route.specs.declared.piece.Piece.{Piece}
use Rattle.olr_legs.specs.Avoiding.{IsSought, most_turns}
use Rattle.olr_legs.specs.Seeking.{IsBoth, IsMissingOf, IsSeek, IsSoughtFor, IsSoughtOf, next_bound}
use Rattle.olr_legs.specs.Stretches.{least_missed, stretch_from}
use Rattle.olr_legs.specs.declared.avoiding.Sought.{Sought}
use Rattle.olr_legs.specs.declared.avoiding.Sought.TheVariants.{Cut, Nothing, Found}
use Rattle.olr_legs.specs.declared.seeking.Seek.{Seek}
use Rattle.olr_legs.proofs.Clear.{avoiding_of_missing, missing_of_avoiding, only}
use Rattle.olr_legs.proofs.Merging.{alike, both_sought, of_sought}

-- ---- what a search came to

module _ (road : RoadMap) (from to : Place) (Holds : List ℕ → Type 0) (bound turns : ℕ) where
  pub not_cut : (sought : Sought) → IsSoughtFor road from to Holds bound turns sought
      → (sought ≡ Cut → ⊥) → turns ≤ most_turns
  not_cut Cut is other = absurd (other refl)
  not_cut Nothing is other = is.0
  not_cut (Found way) is other = is.0

  -- of a search that was cut nothing else is known
  pub cut : (Other : List ℕ → Type 0) (sought : Sought)
      → IsSoughtFor road from to Holds bound turns sought → sought ≡ Cut
      → IsSoughtFor road from to Other bound turns sought
  cut Other Cut is same = is
  cut Other Nothing is same = absurd (cc)
  cut Other (Found way) is same = absurd (cc)

-- ---- one start

-- there are no steps to miss where the route is too short
pub too_short : (seek : Seek) (start : ℕ) → IsSeek seek → seek.length < start + least_missed
    → (behind : List ℕ) → IsMissingOf seek (start ∷ []) behind → ⊥
too_short seek start is short behind missing = omega (
  arith,
  missing.missed.within,
  only start missing.start missing.among,
  length-steps_of seek.route.now,
  is.length_is,
)

pub one_start : (seek : Seek) (start bound turns : ℕ) (shut : List Piece) (sought : Sought)
    → IsSeek seek → steps_of shut ≡ stretch_from seek.route.now start
    → start + least_missed ≤ seek.length
    → IsSought seek.map.now seek.reach.now.class seek.reach.now.from seek.to shut bound turns sought
    → IsSoughtOf seek (start ∷ []) bound turns sought
one_start seek start bound turns shut sought is steps_are long found =
    let road = seek.map.now in
    let class = seek.reach.now.class in
    let from = seek.reach.now.from in
    let route = seek.route.now in
    let within : start + least_missed ≤ length (steps_of route) =
    omega (arith, length-steps_of route, is.length_is) in
    alike road from seek.to _ _ bound turns
    (missing_of_avoiding road class from seek.to route shut start steps_are within)
    (avoiding_of_missing road class from seek.to route shut start steps_are within) sought
    (of_sought road from seek.to class shut bound turns sought found)

-- ---- start by start

-- a stretch that begins at one of these starts begins at one of those
with_starts : (seek : Seek) (starts others : List ℕ) (behind : List ℕ)
    → ((start : ℕ) → Contains starts start → Contains others start)
    → IsMissingOf seek starts behind → IsMissingOf seek others behind
with_starts seek starts others behind among is = record {
  is = is.is;
  leaves_line = is.leaves_line;
  start = is.start;
  among = among is.start is.among;
  missed = is.missed;
}

split_starts : (seek : Seek) (starts others : List ℕ) (behind : List ℕ)
    → IsMissingOf seek (starts ++ others) behind
    → IsMissingOf seek starts behind ⊎ IsMissingOf seek others behind
split_starts seek starts others behind is =
    elim (Contains-append_cases starts others is.start is.among) [
      | inl here ↦ inl (record {
        is = is.is;
        leaves_line = is.leaves_line;
        start = is.start;
        among = here;
        missed = is.missed;
      })
      | inr there ↦ inr (record {
        is = is.is;
        leaves_line = is.leaves_line;
        start = is.start;
        among = there;
        missed = is.missed;
      })
    ]

pub next_start : (seek : Seek) (starts : List ℕ) (index bound before turns : ℕ)
    (first second both : Sought) → IsSoundMap seek.map.now → index < length starts
    → before ≤ most_turns → IsSoughtOf seek (take index starts) bound before first
    → IsSoughtOf seek (get_or starts index 0 ∷ []) (next_bound bound first) turns second
    → IsBoth first second both → IsSoughtOf seek (take (index + 1) starts) bound turns both
next_start seek starts index bound before turns first second both sound inside few one other is =
    let so_far = take index starts in
    let start = get_or starts index 0 in
    let more : take (index + 1) starts ≡ so_far ++ start ∷ [] = take_more starts index 0 inside in
    subst (λ (starts : List ℕ). IsSoughtOf seek starts bound turns both) (sym more)
    (both_sought seek.map.now seek.reach.now.from seek.to (IsMissingOf seek so_far)
    (IsMissingOf seek (start ∷ [])) (IsMissingOf seek (so_far ++ start ∷ [])) bound sound
    (split_starts seek so_far (start ∷ []))
    (λ behind. with_starts seek so_far (so_far ++ start ∷ []) behind
    (λ one has. Contains-append_left so_far (start ∷ []) one has))
    (λ behind. with_starts seek (start ∷ []) (so_far ++ start ∷ []) behind
    (λ one has. Contains-append_right so_far (start ∷ []) one has))
    (λ behind missing. missing.is.on.turns) before turns first second both few one other is)
