-- The lines that meet a box: of a window, and in the list of all.
use Rattle.std.proofs.Common.{◌≡◌, ◌≢◌, ℕ, ◌<◌, ℤ, Bool, true, false, cond, List, [], ◌∷◌, length, get_or, take, All, Option, None, Some, inl, inr, refl, arith}
use Rattle.std.specs.Prelude.{◌≤ℤ◌, int_le, filter, slice_get, AllPairs, Contains}
use Rattle.std.specs.List.{list_any, range_with_len}
use Rattle.std.specs.List.Sorted.{IsPermutation, IsSorted}
use Rattle.std.specs.Ordering.{nat_cmp}
use Rattle.std.proofs.lemmas.Bool.{and_parts, and_from, false≢true}
use Rattle.std.proofs.lemmas.Bool.Decides.{Decides-eqb}
use Rattle.std.proofs.lemmas.Int.{ints}
use Rattle.std.proofs.lemmas.List.Elements.{All-contains, All-filter, All-same, All-take, filter_passes}
use Rattle.std.proofs.lemmas.List.Folds.{Any-from_list_any, list_any-from_Any}
use Rattle.std.proofs.lemmas.List.FromFn.{get_or-range_with_len, length-range_with_len}
use Rattle.std.proofs.lemmas.List.Kept.{AllPairs-filter}
use Rattle.std.proofs.lemmas.List.Sorted.{Contains-permutation, IsNonDecreasingBy-from_sort, IsPermutation-sym}
use Rattle.std.proofs.lemmas.Map.Keys.{IsDistinct-IsPermutation}
use Rattle.std.proofs.lemmas.Map.Made.{AllPairs-from_IsDistinct, IsDistinct-from_AllPairs}
use Rattle.std.proofs.lemmas.Option.{slice_get_within}
use Rattle.std.proofs.lemmas.Cmp.{nat_eq_equiv}
use Rattle.olr_base.specs.Coordinates.{Coordinates}
use Rattle.olr_base.proofs.Contained.{member, further}
use Rattle.olr_base.proofs.Rising.{same_list}
use Rattle.olr_road.specs.RoadMap.{RoadLine}
use Rattle.olr_road.specs.Windows.{IsWindowOf, MeetsWindow, RankMeetsWindow}
use Rattle.olr_lines.specs.LinesInBox.{is_meeting, is_some_meeting, lines_meeting, window_of}
use Rattle.olr_lines.specs.declared.geo_box.GeoBox.{GeoBox}

le_if : {a b : ℤ} → int_le a b ≡ true → a ≤ℤ b
le_if h = grind (arith, ints)

if_le : {a b : ℤ} → a ≤ℤ b → int_le a b ≡ true
if_le h = grind (arith, ints)

-- ---- a point that passes a test

some_point : (test : Coordinates → Bool) (points : List Coordinates) → list_any test points ≡ true
    → (point : Coordinates) × Contains points point × (test point ≡ true)
some_point test points is =
    let found = Any-from_list_any test points is in
    (found.1, (found.0, found.2, found.3), found.4)

a_point : (test : Coordinates → Bool) (points : List Coordinates) (point : Coordinates)
    → Contains points point → test point ≡ true → list_any test points ≡ true
a_point test points point there is =
    list_any-from_Any test points (there.0, point, there.1, there.2, is)

-- ---- a line that meets a box

module _ (wanted : GeoBox) where
  meets_if : (line : RoadLine) → is_meeting wanted line ≡ true
      → MeetsWindow (window_of wanted) line
  meets_if line is =
      let three = and_parts _ _ is in
      let two = and_parts _ _ three.0 in
      let one = and_parts _ _ two.0 in
      let south = some_point _ line.points one.0 in
      let north = some_point _ line.points one.1 in
      let west = some_point _ line.points two.1 in
      let east = some_point _ line.points three.1 in
      record {
        lats = record {
          band = wanted.northwards;
          southern = south.0;
          northern = north.0;
          one = south.1;
          other = north.1;
          not_north = le_if south.2;
          not_south = le_if north.2;
        };
        lons = record {
          band = wanted.eastwards;
          western = west.0;
          eastern = east.0;
          one = west.1;
          other = east.1;
          not_east = le_if west.2;
          not_west = le_if east.2;
        };
      }

  if_meets : (line : RoadLine) → MeetsWindow (window_of wanted) line
      → is_meeting wanted line ≡ true
  if_meets line is =
      and_from _ _
      (and_from _ _
      (and_from _ _ (a_point _ line.points is.lats.southern is.lats.one (if_le is.lats.not_north))
      (a_point _ line.points is.lats.northern is.lats.other (if_le is.lats.not_south)))
      (a_point _ line.points is.lons.western is.lons.one (if_le is.lons.not_east)))
      (a_point _ line.points is.lons.eastern is.lons.other (if_le is.lons.not_west))

  some_if : (option : Option RoadLine) → is_some_meeting wanted option ≡ true
      → (line : RoadLine) × (option ≡ Some line) × MeetsWindow (window_of wanted) line
  some_if None is = absurd (false≢true is)
  some_if (Some line) is = (line, refl, meets_if line is)

-- ---- the members of a list that are kept

kept_of : (test : ℕ → Bool) (y x : ℕ) (all : List ℕ) (passes : Bool) → (y ≡ x → passes ≡ true)
    → Contains (y ∷ filter test all) x → Contains (cond passes (y ∷ filter test all) (filter test all)) x
kept_of test y x all true same there = there
kept_of test y x all false same there = elim (member y (filter test all) x there) [
  | inl is ↦ absurd (false≢true (same is))
  | inr behind ↦ behind
]

kept : (test : ℕ → Bool) (all : List ℕ) (x : ℕ) → Contains all x → test x ≡ true
    → Contains (filter test all) x
kept test [] x there is = absurd (omega arith)
kept test (y ∷ all) x there is =
    kept_of test y x all (test y) (λ same. rw same is) (elim (member y all x there) [
      | inl same ↦ (0, omega arith, same)
      | inr behind ↦ further y _ x (kept test all x behind is)
    ])

-- ---- the list of all

module _ (lines : List RoadLine) (wanted : GeoBox) where
  abbrev test : ℕ → Bool
  test rank = is_some_meeting wanted (slice_get lines rank)

  abbrev ranks : List ℕ
  ranks = range_with_len 0 (length lines)

  below : (rank : ℕ) → rank < length lines → Contains ranks rank
  below rank inside =
      let same : get_or ranks rank rank ≡ rank =
      omega (arith, get_or-range_with_len 0 (length lines) rank rank inside) in
      (rank, rw length-range_with_len inside, same)

  listed : (rank : ℕ) → RankMeetsWindow lines (window_of wanted) rank
      → Contains (lines_meeting lines wanted) rank
  listed rank is =
      let passes : test rank ≡ true = rw is.1 (if_meets wanted is.0 is.2) in
      kept test ranks rank (below rank (slice_get_within lines rank is.0 is.1)) passes

  meets_listed : (rank : ℕ) → Contains (lines_meeting lines wanted) rank
      → RankMeetsWindow lines (window_of wanted) rank
  meets_listed rank there =
      some_if wanted (slice_get lines rank)
      (All-contains (λ (rank : ℕ). test rank ≡ true) (filter test ranks) rank
      (filter_passes test ranks) there)

  rise : AllPairs (λ a b. a < b) (lines_meeting lines wanted)
  rise = AllPairs-filter (λ a b. a < b) test ranks (λ i j d below inside. omega (
    arith,
    length-range_with_len 0 (length lines),
    get_or-range_with_len 0 (length lines) i d,
    get_or-range_with_len 0 (length lines) j d,
  ))

-- the first of them are ranks of the map
pub first_within : (lines : List RoadLine) (wanted : GeoBox) (most : ℕ) (first : List ℕ)
    → first ≡ take most (lines_meeting lines wanted) → All (λ rank. rank < length lines) first
first_within lines wanted most first are =
    All-same (λ (rank : ℕ). rank < length lines) first (take most (lines_meeting lines wanted)) are
    (All-take (λ (rank : ℕ). rank < length lines) most (lines_meeting lines wanted)
    (All-filter (test lines wanted) (λ (rank : ℕ). rank < length lines)
    (range_with_len 0 (length lines)) (λ k d inside. omega (
      arith,
      length-range_with_len 0 (length lines),
      get_or-range_with_len 0 (length lines) k d,
    ))))

-- ---- the sorted list of those that a window gives

differ_sorted : (found sorted : List ℕ) → IsPermutation found sorted → AllPairs (λ a b. a ≢ b) found
    → AllPairs (λ a b. a ≢ b) sorted
differ_sorted found sorted moved differ =
    AllPairs-from_IsDistinct Decides-eqb _
    (IsDistinct-IsPermutation _ nat_eq_equiv.symm _ _ moved
    (IsDistinct-from_AllPairs Decides-eqb _ differ))

sorted_rise : (sorted : List ℕ) → IsSorted nat_cmp sorted → AllPairs (λ a b. a ≢ b) sorted
    → AllPairs (λ a b. a < b) sorted
sorted_rise sorted up differ i j d below inside = omega (
  arith,
  differ i j d below inside,
  IsNonDecreasingBy-from_sort (λ (x : ℕ). x) sorted up i j d (omega arith) inside,
)

pub sorted_are : (lines : List RoadLine) (wanted : GeoBox) (found sorted : List ℕ)
    → IsWindowOf lines (window_of wanted) found → IsPermutation found sorted
    → IsSorted nat_cmp sorted → sorted ≡ lines_meeting lines wanted
sorted_are lines wanted found sorted is moved up =
    same_list (λ a b. a < b) (λ a b before back. omega arith) sorted (lines_meeting lines wanted)
    (sorted_rise sorted up (differ_sorted found sorted moved is.once))
    (rise lines wanted)
    (λ rank there. listed lines wanted rank
    (All-contains (RankMeetsWindow lines (window_of wanted)) found rank is.only
    (Contains-permutation sorted found rank (IsPermutation-sym found sorted moved) there)))
    (λ rank there. Contains-permutation found sorted rank moved
    (is.each rank (meets_listed lines wanted rank there)))
