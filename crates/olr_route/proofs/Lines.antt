-- The line of a rank, the lines that start where it ends, and the bans on turns from it.
use Rattle.olr_route.proofs.Common.{IsPlace, RoadLine, RoadMap, IsSoundMap, origins_of, IsStepOver, IsTurn, IsAllowed, IsOpen, length_at, start_of, IsLinesOf, EndsAt, StartsAt, ◌≡◌, ℕ, zero, suc, ◌+◌, ◌<◌, List, [], ◌∷◌, get_or, length, Option, Some, None, subst, ap, sym, ◌∙◌, refl, arith, false, ◌≤◌, map, Result, Ok, Err, slice_get, option_map, unwrap_or, Contains, nat_eq, Decides, MatchBool, common_steps, same_Some, get_or_from_slice_get, slice_get_within, slice_get-map, head_of, IsSoundLine, ban_of, All-contains, Contains-get_or, nat_cmp, get_or-map, get_or_default, length-map, Ban, HasNoBan}
use Rattle.olr_road.specs.declared.line.Line.{Line}
use Rattle.olr_route.specs.Turn.{IsNoneTo}
use Rattle.std.specs.List.Sorted.{IsBinarySearchResult, IsSearchInRange, IsStrictlyIncreasing}
use Rattle.std.specs.Result.{is_err}
use Rattle.olr_index.proofs.Finding.{found_by_key}
use Rattle.std.proofs.lemmas.Bool.Decides.{nat_tests}
use Rattle.olr_road.specs.BansFrom.{AreBansFrom}

pub line_at : (lines : List RoadLine) (rank : ℕ) → rank < length lines → (line : RoadLine)
    × (slice_get lines rank ≡ Some line)
line_at [] rank within = absurd (omega arith)
line_at (line ∷ rest) zero within = (line, refl)
line_at (line ∷ rest) (suc rank) within = line_at rest rank (omega arith)

pub one_line : (lines : List RoadLine) (rank : ℕ) (a b : RoadLine) → slice_get lines rank ≡ Some a
    → slice_get lines rank ≡ Some b → a ≡ b
one_line lines rank a b is other = same_Some a b (sym is ∙ other)

-- each line of a map is sound
sound_line : (road : RoadMap) (rank : ℕ) (line : RoadLine) → IsSoundMap road
    → slice_get road.lines rank ≡ Some line → IsSoundLine (length road.nodes) line
sound_line road rank line sound at =
    subst (λ (l : RoadLine). IsSoundLine (length road.nodes) l)
    (get_or_from_slice_get road.lines rank _ line at)
    (sound.lines.each rank line (slice_get_within road.lines rank line at))

pub long_at : (road : RoadMap) (rank : ℕ) (line : RoadLine) → IsSoundMap road
    → slice_get road.lines rank ≡ Some line → 0 < line.length
long_at road rank line sound at = (sound_line _ _ _ sound at).long

-- its length
pub length_here : (road : RoadMap) (rank : ℕ) (line : RoadLine)
    → slice_get road.lines rank ≡ Some line → length_at road rank ≡ line.length
length_here road rank line at =
    ap (λ (o : Option RoadLine). unwrap_or (option_map (λ (l : RoadLine). l.length) o) 0) at

-- a line that another one follows has a length
pub long_before_turn : (road : RoadMap) (a b : ℕ) → IsSoundMap road → IsTurn road a b
    → 0 < length_at road a
long_before_turn road a b sound turn = grind (arith, long_at, length_here)

-- ---- places

pub start_on_map : (road : RoadMap) (rank : ℕ) → rank < length road.lines
    → IsPlace road (start_of rank)
start_on_map road rank within = let at = line_at _ _ within in
    record { line = at.0; at_rank = at.1; up_to_end = omega arith }

-- ---- lists

-- what holds of the elements before one and of that one holds of those up to it
pub passed_over : (Is Holds : ℕ → Type 0) (xs : List ℕ) (i : ℕ)
    → ((k d : ℕ) → k < i → Is (get_or xs k d) → Holds (get_or xs k d)) → i < length xs
    → (Is (get_or xs i 0) → Holds (get_or xs i 0))
    → (k d : ℕ) → k < i + 1 → Is (get_or xs k d) → Holds (get_or xs k d)
passed_over Is Holds xs i before inside here k d lt is =
    let at = get_or_default xs i 0 d inside in let earlier = before k d in grind arith

-- ---- turns

-- what is found is what gave the value
pub of_value : {A B : Type 0} → (f : A → B) (found : Option A) (b : B) → option_map f found ≡ Some b
    → (a : A) × (found ≡ Some a) × (f a ≡ b)
of_value f None b is = absurd cc
of_value f (Some a) b is = (a, refl, same_Some (f a) b is)

with_origin : (road : RoadMap) (node line : ℕ) → StartsAt road node line → (here : RoadLine)
    × (slice_get road.lines line ≡ Some here) × (here.from ≡ node)
with_origin road node line starts = grind (arith, of_value, slice_get-map)

-- the lines that start where a line ends and to which the turn isn't banned are those that may
-- follow
module _ (road : RoadMap) (line node : ℕ) (ends : EndsAt road node line) where
  pub meets_there : (next : ℕ) (turn : IsTurn road line next) → turn.after.from ≡ node
  meets_there next turn = grind (arith, one_line)

  pub starts_there : (next : ℕ) → IsTurn road line next → StartsAt road node next
  starts_there next turn = grind (arith, slice_get-map, meets_there)

  pub turn_there : (next : ℕ) → StartsAt road node next → IsAllowed road line next
      → IsTurn road line next
  turn_there next starts allowed = grind (arith, with_origin)

-- a line by its head: its length, the nodes at which it starts and ends, and its class
module _ (road : RoadMap) (rank : ℕ) (head : Line)
    (is : option_map head_of (slice_get road.lines rank) ≡ Some head) where
  abbrev row : (line : RoadLine) × (slice_get road.lines rank ≡ Some line) × (head_of line ≡ head)
  row = of_value head_of (slice_get road.lines rank) head is

  pub head_length : length_at road rank ≡ head.length
  head_length = length_here road rank row.0 row.1 ∙ ap (λ (h : Line). h.length) row.2

  pub origin_of : StartsAt road head.from rank
  origin_of = grind (arith, slice_get-map)

  abbrev pub end_of : EndsAt road head.to rank
  end_of = record { here = row.0; at = row.1; to = ap (λ (h : Line). h.to) row.2 }

  -- a step over what is left of it
  pub step_over : (len : ℕ) → IsStepOver road
      (record { line = rank; to = head.to; length = len; class = head.class })
  step_over len = record { ends = end_of; class = ap (λ (h : Line). h.class) row.2 }

  pub open_of : (class : ℕ) → head.class ≤ class → (open_line : IsOpen road class rank)
      × (open_line.line.to ≡ head.to)
  open_of class within = (
    record {
      line = row.0;
      at = row.1;
      within = omega (arith, ap (λ (h : Line). h.class) row.2);
    },
    ap (λ (h : Line). h.to) row.2,
  )

-- those of the lines that start where a line ends are just those that may follow, where the turn
-- isn't banned
module _ (road : RoadMap) (line : ℕ) (head : Line)
    (is : option_map head_of (slice_get road.lines line) ≡ Some head) (lines : List ℕ)
    (are : IsLinesOf (origins_of road.lines) head.to lines) where
  pub turn_ahead : (next : ℕ) → Contains lines next → IsAllowed road line next
      → IsTurn road line next
  turn_ahead next among = turn_there road line head.to (end_of road line head is) next
      (All-contains (λ (r : ℕ). slice_get (origins_of road.lines) r ≡ Some head.to) lines next
      are.only among)

  pub all_ahead : (next : ℕ) → IsTurn road line next → Contains lines next
  all_ahead next turn = are.all next
      (starts_there road line head.to (end_of road line head is) next turn)

-- a node at which a line starts is on the map
pub origin_inside : (road : RoadMap) (node line : ℕ) → IsSoundMap road → StartsAt road node line
    → node < length road.nodes
origin_inside road node line sound starts =
    let found = with_origin road node line starts in
    subst (λ (n : ℕ). n < length road.nodes) found.2
    (sound_line road line found.0 sound found.1).from

-- and one at which a line ends
pub end_inside : (road : RoadMap) (node line : ℕ) → IsSoundMap road → EndsAt road node line
    → node < length road.nodes
end_inside road node line sound ends =
    subst (λ (n : ℕ). n < length road.nodes) ends.to
    (sound_line _ _ _ sound ends.at).to

-- ---- the keys of a table

pub key_differs : (line key : ℕ) → (key ≡ line → ⊥) → nat_eq line key ≡ false
key_differs line key differs = grind (arith, common_steps)

-- ---- bans

module _ (road : RoadMap) (line next : ℕ) (bans : List Ban) (are : AreBansFrom road.bans line bans)
  where
    pub allowed_turn : IsNoneTo bans next → IsAllowed road line next
    allowed_turn none is = none (ban_of line next) (are.each (ban_of line next) is refl) refl

    none_to : IsAllowed road line next → IsNoneTo bans next
    none_to allowed ban among to = grind arith

    pub never_allowed : (IsNoneTo bans next → ⊥) → IsAllowed road line next → ⊥
    never_allowed some allowed = some (none_to allowed)

-- no turn from the end of a line is banned just where there are no bans on turns from it
pub free_of_bans : (road : RoadMap) (line : ℕ) (bans : List Ban) → AreBansFrom road.bans line bans
    → Decides (nat_eq (length bans) 0) (HasNoBan road line)
free_of_bans road line [] are = (
  λ _ next. allowed_turn road line next [] are (λ ban among _. absurd (omega arith)),
  λ _. refl,
)
free_of_bans road line (ban ∷ rest) are = (
  λ never. absurd (grind (arith, nat_tests)),
  λ free. absurd
      (never_allowed road line ban.to (ban ∷ rest) are
      (λ none. none ban (0, omega arith, refl) refl)
      (free ban.to)),
)

-- ---- bans by the rising ranks of the lines that may not follow

-- what a binary search among them says
module _ (bans : List Ban) (rise : IsStrictlyIncreasing (map (λ (ban : Ban). ban.to) bans))
    (next : ℕ) where
  pub searched : (at : Result ℕ ℕ) → IsSearchInRange at (length bans)
      → IsBinarySearchResult (λ (ban : Ban). nat_cmp ban.to next) bans at
      → MatchBool (is_err at) (IsNoneTo bans next) (IsNoneTo bans next → ⊥)
  searched (Ok i) inside is = λ none.
      none (get_or bans i (ban_of 0 0)) (Contains-get_or bans i (ban_of 0 0) inside)
      (grind (arith, common_steps, is (ban_of 0 0)))
  searched (Err i) inside is = λ ban (k, within, same) to.
      found_by_key (λ (b : Ban). b.to) bans next (Err i) rise inside is (
        k,
        omega (arith, length-map bans (λ (b : Ban). b.to)),
        get_or-map (λ (b : Ban). b.to) bans k ban next within ∙ ap (λ (b : Ban). b.to) same ∙ to,
      )
