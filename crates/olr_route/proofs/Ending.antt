-- What a search tells of the lines that it was asked for, and of the places of a map.
use Rattle.olr_route.proofs.Common.{IsDeparture, IsPlace, RoadMap, IsSoundMap, Place, Arrival, Search, AreAllReached, AreReachedFirst, HasEnded, IsArrived, AreLengthsOn, Lengths, IsAskedFor, IsLeastLength, IsLengthWithin, start_of, refl, ◌≡◌, ℕ, ◌<◌, ◌≤◌, List, [], All, length, get_or, map, Option, Some, None, inl, inr, subst, arith, Contains, IsSome, unwrap_or, get_or-map, length-map, All-map, slice_get-get_or, slice_get_within, length_to_start}
use Rattle.olr_route.proofs.Walks.{found, walks_known}

-- what was reached still is
pub still_reached : (search : Search) (line at_end : ℕ) (old new : ℕ → Option ℕ)
    (before after : List Arrival) → IsArrived search line at_end old new before after
    → (lines : List ℕ) (count : ℕ) → AreReachedFirst old lines count
    → AreReachedFirst new lines count
still_reached search line at_end old new before after goes lines count reached index target less
    is = grind arith

-- all of the lines that it is asked for were reached
pub all_reached : (asked : Option (List ℕ)) (table : ℕ → Option ℕ) (lines : List ℕ) (count : ℕ)
    → lines ≡ unwrap_or asked [] → IsSome asked → count ≡ length lines
    → AreReachedFirst table lines count → AreAllReached asked table
all_reached None table lines count is some all reached = absurd (cc some)
all_reached (Some asked) table lines count is some all reached =
    rw is at (subst (λ (n : ℕ). AreReachedFirst table lines n) all reached)

-- ---- what a search found

-- each line that is asked for is reached
reached_asked : (asked : Option (List ℕ)) (table : ℕ → Option ℕ) → AreAllReached asked table
    → (line : ℕ) → IsAskedFor asked line → IsSome (table line)
reached_asked None table all line is = absurd all
reached_asked (Some lines) table all line is = grind (arith, slice_get-get_or)

module _ (road : RoadMap) (lengths : Lengths) (sound : IsSoundMap road)
    (departure : IsDeparture road lengths.from)
    (has : HasEnded road lengths.class lengths.from lengths.asked lengths.limit
    (length_to_start road lengths)) where
  abbrev class : ℕ
  class = lengths.class

  abbrev from : Place
  from = lengths.from

  abbrev table : ℕ → Option ℕ
  table = length_to_start road lengths

  -- What is known of a line that it was asked for: the least length up to the limit, and the search
  -- went as far as that.
  record IsTold (line : ℕ) (known : Option ℕ) : Type 0 where
    is : IsLengthWithin road class from (start_of line) lengths.limit known
    far : (least : ℕ) → IsLeastLength road class from (start_of line) least → least ≤ lengths.limit
        → least ≤ has.searched

  told_up_to : (line : ℕ) → IsAskedFor lengths.asked line → (known : Option ℕ) → table line ≡ known
      → IsLengthWithin road class from (start_of line) has.searched known → IsTold line known
  told_up_to line is None none here = elim has.far [
    | inl all ↦ let some = reached_asked _ _ all _ is in absurd (cc (some, none))
    | inr whole ↦ record {
      is = λ behind walk. omega (arith, here behind walk);
      far = λ least _ within. omega arith;
    }
  ]
  told_up_to line is (Some len) known (shortest, within) = grind arith

  told : (line : ℕ) → IsAskedFor lengths.asked line → IsTold line (table line)
  told line is = told_up_to line is (table line) refl
      (found road class from lengths.asked has.searched table has.knows has.settled sound departure
      line is)

  -- so it holds the lengths of the map
  pub held_by : AreLengthsOn road lengths
  held_by = record {
    from_map = departure;
    sound = λ line length known. let was = has.knows.sound line length known in
        (omega arith, was.1);
    each = λ line is. (told line is).is;
    walks = λ target is n line len rest reaches on least shortest long within.
        walks_known road class from lengths.asked has.searched table has.knows has.settled target is
        n line len rest reaches on least shortest long ((told target is).far least shortest within);
  }

-- ---- the lines of targets

-- a search that is asked for the lines of some places tells the lengths to them
pub all_told : (lines : List ℕ) (targets : List Place)
    → lines ≡ map (λ (place : Place). place.line) targets
    → All (λ (target : Place). Contains lines target.line) targets
all_told lines targets are = rw are (λ k d inside. (
  k,
  omega (arith, length-map targets (λ place. place.line)),
  get_or-map
      (λ place. place.line) targets k d _ inside,
))

-- the lines are on the map where the places are
pub lines_inside : (road : RoadMap) (lines : List ℕ) (targets : List Place)
    → lines ≡ map (λ (place : Place). place.line) targets → All (IsPlace road) targets
    → All (λ line. line < length road.lines) lines
lines_inside road lines targets are on_map =
    rw are (All-map (λ line. line < length road.lines) (λ place. place.line) targets
    (λ k d inside. let on = on_map k d inside in
    slice_get_within road.lines (get_or targets k d).line on.line on.at_rank))
