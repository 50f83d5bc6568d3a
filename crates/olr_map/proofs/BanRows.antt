-- The ban of a record: its two lines among those of the map.
use Rattle.olr_road.specs.declared.line.Line.{Line}
use Rattle.olr_map.proofs.Common.{RoadLine, line_ids, NamesLines, IsAdjacent, ban_of, SpellsIds, rules, ◌≡◌, ℕ, ◌<◌, List, length, Option, Some, None, refl, sym, ap, ◌∙◌, arith, option_map, slice_get, unwrap_or, length-map, slice_get_within, head_of}

pub rank_inside : (lines : List RoadLine) (id rank : ℕ) → slice_get (line_ids lines) rank ≡ Some id
    → rank < length lines
rank_inside lines id rank at = grind (arith, slice_get_within, length-map)

-- the line of a rank, by its head
line_there : (o : Option RoadLine) (head : Line) → option_map head_of o ≡ Some head
    → (line : RoadLine) × (o ≡ Some line) × (head_of line ≡ head)
line_there None head is = absurd cc
line_there (Some line) head is = (line, refl, ap (λ (o : Option Line). unwrap_or o head) is)

pub names : (lines : List RoadLine) (fields : List (List ℕ)) (first second from to : ℕ)
    → SpellsIds fields first second
    → slice_get (line_ids lines) from ≡ Some first → slice_get (line_ids lines) to ≡ Some second
    → NamesLines lines fields (ban_of from to)
names lines fields first second from to says at then = search rules

module _ (lines : List RoadLine) (from to : ℕ) (one other : Line)
    (first : option_map head_of (slice_get lines from) ≡ Some one)
    (second : option_map head_of (slice_get lines to) ≡ Some other) where
  pub meets : one.to ≡ other.from → IsAdjacent lines (ban_of from to)
  meets same = grind (arith, line_there)

  pub never_meets : (one.to ≡ other.from → ⊥) → IsAdjacent lines (ban_of from to) → ⊥
  never_meets apart_there is =
      let at : head_of is.first ≡ one = head_once (sym (ap (option_map head_of) is.from) ∙ first) in
      let then : head_of is.second ≡ other =
      head_once (sym (ap (option_map head_of) is.to) ∙ second) in
      apart_there (cc (at, then, is.meet))
    where
      head_once : {a b : Line} → Some a ≡ Some b → a ≡ b
      head_once {a} {b} same = cc
