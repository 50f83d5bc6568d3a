-- What is answered in the likely order: the places that are shown, and what is known of all that
-- were looked at. Totals and gaps are in penalty points, costs in thirtieths of one.
use Rattle.std.specs.Prelude.{◌≡◌, ℕ, ◌+◌, ◌*◌, Bool, false, List, [], ◌∷◌, length, filter, find, Option, None, Some, option_map, slice_get, nat_le, nat_lt}
use Rattle.std.specs.Option.{option_map_or}
use Rattle.olr_keys.specs.Key.{KeyValue}
use Rattle.olr_places.specs.Verdict.{verdict_by}
use Rattle.olr_places.specs.declared.ending.Ending.{Ending}
use Rattle.olr_places.specs.declared.ending.Ending.TheVariants.{Beyond}
use Rattle.olr_places.specs.declared.limits.PlaceLimits.{PlaceLimits}
use Rattle.olr_likely.specs.Order.{AreShown, least_cost}
use Rattle.olr_likely.specs.declared.answer.LikelyPlaces.{LikelyPlaces}
use Rattle.olr_likely.specs.declared.chances.Chances.{Chances}
use Rattle.olr_likely.specs.declared.ranked.RankedPlace.{RankedPlace}

-- the margin: the gap of the second place that was looked at, if there is one
abbrev pub second_gap : List RankedPlace → Option ℕ
second_gap places = option_map (λ (place : RankedPlace). place.opener.gap) (slice_get places 1)

-- a place is listed where its gap is at most what is asked for
abbrev pub is_listed : ℕ → RankedPlace → Bool
is_listed within place = nat_le place.opener.gap within

-- how many are listed
abbrev pub count_listed : ℕ → List RankedPlace → ℕ
count_listed within places = length (filter (is_listed within) places)

-- The verdict is that of the order of totals over these places. For it looking ended behind the first
-- one with a gap greater than `within`, where there is one, else as it did.
abbrev pub ending_within : ℕ → List RankedPlace → Ending → Ending
ending_within within places ending =
    option_map_or (λ (place : RankedPlace). Beyond place.opener.gap)
    (find (λ (place : RankedPlace). nat_lt within place.opener.gap) places) ending

-- Whether a place may be missing that would be shown, where looking was cut off behind the matching
-- of a key: no matching behind it costs less than 6 times the total of this one.
abbrev pub is_cut : ℕ → List RankedPlace → Option KeyValue → Bool
is_cut within [] next = false
is_cut within (place ∷ places) None = false
is_cut within (place ∷ places) (Some last) =
    nat_le (6 * last.total) (least_cost (place ∷ places) + 30 * within)

-- What is answered of the places that were looked at, by how many matchings these were, why looking
-- ended, the key behind which it was cut off, and what a confidence says of them.
pub record IsAnswerOf (limits : PlaceLimits) (looked : ℕ) (ending : Ending)
    (next : Option KeyValue) (chances : Option Chances) (places : List RankedPlace)
    (likely : LikelyPlaces) : Type 0 where
  pub shown : AreShown limits places likely.places.items
  pub looked_is : likely.looked ≡ looked
  pub next_is : likely.next ≡ next
  pub margin_is : likely.margin ≡ second_gap places
  pub cut_is : likely.cut ≡ is_cut limits.within places next
  pub chances_are : likely.chances ≡ chances
  pub verdict_is : likely.verdict
      ≡ verdict_by looked (count_listed limits.within places)
      (ending_within limits.within places ending)
