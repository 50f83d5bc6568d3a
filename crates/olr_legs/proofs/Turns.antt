-- The lines before a line and those behind it.
use Rattle.std.proofs.Common.{◌≡◌, ℕ, ◌<◌, ◌≤◌, ◌∙◌, refl, ap, sym, arith, subst, get_or, length, List}
use Rattle.std.proofs.lemmas.Option.{same_Some, slice_get-map, slice_get_within}
use Rattle.std.proofs.lemmas.List.{get_or_default}
use Rattle.olr_index.specs.ByNode.{IsLinesOf}
use Rattle.std.specs.Prelude.{Contains, Option, Some, None, option_map, slice_get}
use Rattle.olr_road.specs.RoadMap.{RoadLine, RoadMap, destinations_of, head_of, origins_of}
use Rattle.olr_road.specs.declared.line.Line.{Line}
use Rattle.olr_route.specs.Turn.{IsAllowed, IsOpen, IsTurn}
use Rattle.olr_route.specs.Walk.{length_at}
use Rattle.olr_legs.proofs.Walks.{length_here}

-- what is found is what gave the value
of_value : {A B : Type 0} → (f : A → B) (found : Option A) (b : B) → option_map f found ≡ Some b
    → (a : A) × (found ≡ Some a) × (f a ≡ b)
of_value f None b is = absurd cc
of_value f (Some a) b is = (a, refl, same_Some (f a) b is)

one_line : (lines : List RoadLine) (rank : ℕ) (a b : RoadLine) → slice_get lines rank ≡ Some a
    → slice_get lines rank ≡ Some b → a ≡ b
one_line lines rank a b is other = same_Some a b (sym is ∙ other)

with_end : (road : RoadMap) (node line : ℕ)
    → slice_get (destinations_of road.lines) line ≡ Some node → (here : RoadLine)
    × (slice_get road.lines line ≡ Some here) × (here.to ≡ node)
with_end road node line ends = grind (arith, of_value, slice_get-map)

with_origin : (road : RoadMap) (node line : ℕ)
    → slice_get (origins_of road.lines) line ≡ Some node → (here : RoadLine)
    × (slice_get road.lines line ≡ Some here) × (here.from ≡ node)
with_origin road node line starts = grind (arith, of_value, slice_get-map)

-- a line of the map
module _ (road : RoadMap) (rank : ℕ) (head : Line)
    (is : option_map head_of (slice_get road.lines rank) ≡ Some head) where
  abbrev row : (line : RoadLine) × (slice_get road.lines rank ≡ Some line) × (head_of line ≡ head)
  row = of_value head_of (slice_get road.lines rank) head is

  pub head_length : length_at road rank ≡ head.length
  head_length = length_here road rank row.0 row.1 ∙ ap (λ (h : Line). h.length) row.2

  same_row : (line : RoadLine) → slice_get road.lines rank ≡ Some line → head_of line ≡ head
  same_row line at = ap head_of (one_line road.lines rank line row.0 at row.1) ∙ row.2

  -- the lines before it are those that end where it starts, where the turn is allowed
  pub turn_from : (before : ℕ) → slice_get (destinations_of road.lines) before ≡ Some head.from
      → IsAllowed road before rank → IsTurn road before rank
  turn_from before ends allowed = let found = with_end road head.from before ends in record {
    before = found.0;
    after = row.0;
    leaves = found.1;
    enters = row.1;
    meets = found.2 ∙ sym (ap (λ (h : Line). h.from) row.2);
    allowed = allowed;
  }

  pub ends_there : (before : ℕ) → IsTurn road before rank
      → slice_get (destinations_of road.lines) before ≡ Some head.from
  ends_there before turn =
      let to : turn.before.to ≡ head.from =
      turn.meets ∙ ap (λ (h : Line). h.from) (same_row turn.after turn.enters) in
      grind (arith, slice_get-map)

  -- the lines behind it are those that start where it ends, where the turn is allowed
  pub turn_to : (next : ℕ) → slice_get (origins_of road.lines) next ≡ Some head.to
      → IsAllowed road rank next → IsTurn road rank next
  turn_to next starts allowed = let found = with_origin road head.to next starts in record {
    before = row.0;
    after = found.0;
    leaves = row.1;
    enters = found.1;
    meets = ap (λ (h : Line). h.to) row.2 ∙ sym found.2;
    allowed = allowed;
  }

  pub starts_there : (next : ℕ) → IsTurn road rank next
      → slice_get (origins_of road.lines) next ≡ Some head.to
  starts_there next turn =
      let from : turn.after.from ≡ head.to =
      sym turn.meets ∙ ap (λ (h : Line). h.to) (same_row turn.before turn.leaves) in
      grind (arith, slice_get-map)

  pub open_of : (class : ℕ) → head.class ≤ class → IsOpen road class rank
  open_of class within = record {
    line = row.0;
    at = row.1;
    within = omega (arith, ap (λ (h : Line). h.class) row.2);
  }

-- lines that end at a node are on the map
pub into_inside : (road : RoadMap) (node : ℕ) (lines : List ℕ) (index : ℕ)
    → IsLinesOf (destinations_of road.lines) node lines → index < length lines
    → get_or lines index 0 < length road.lines
into_inside road node lines index are inside =
    let found = with_end road node (get_or lines index 0) (are.only index 0 inside) in
    slice_get_within road.lines (get_or lines index 0) found.0 found.1

-- lines that start at a node are on the map
pub out_inside : (road : RoadMap) (node : ℕ) (lines : List ℕ) (index : ℕ)
    → IsLinesOf (origins_of road.lines) node lines → index < length lines
    → get_or lines index 0 < length road.lines
out_inside road node lines index are inside =
    let found = with_origin road node (get_or lines index 0) (are.only index 0 inside) in
    slice_get_within road.lines (get_or lines index 0) found.0 found.1

-- what holds of each line of a list holds of one that the list contains
pub each_of : (Holds : ℕ → Type 0) (lines : List ℕ) (index : ℕ)
    → ((k : ℕ) → k < index → Holds (get_or lines k 0)) → length lines ≤ index
    → (line : ℕ) → Contains lines line → Holds line
each_of Holds lines index each all line (k, inside, is) =
    subst Holds (get_or_default lines k 0 line inside ∙ is) (each k (omega arith))
