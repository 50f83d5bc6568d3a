-- Arrivals from which no line that is asked for can be reached within the limit.
use Rattle.olr_road.specs.Goals.{AreGoalsOn, GoalLines, Joins}
use Rattle.olr_route.proofs.Common.{RoadMap, RoadLine, Search, MayGoOn, EndsAt, IsAskedFor, walk_length, start_of, LeadTo, ◌≡◌, ℕ, zero, suc, ◌+◌, ◌<◌, List, [], ◌∷◌, Option, Some, subst, refl, arith, option_map, slice_get, slice_index}
use Rattle.olr_route.proofs.Lines.{length_here, meets_there}
use Rattle.olr_route.proofs.Walks.{behind_first, rest_last, rest_more}

module _ (road : RoadMap) (class target : ℕ) where
  -- the line that some lines join to another one, from where that one starts to where this one does
  record AreJoined (from length : ℕ) : Type 0 where
    line : RoadLine
    at : slice_get road.lines target ≡ Some line
    count : ℕ
    joins : Joins road count from line.from length

  -- lines that lead on are lines that join
  joined : (line : ℕ) (row : RoadLine) (rest : List ℕ) → slice_get road.lines line ≡ Some row
      → LeadTo road class (start_of line) (start_of target) rest
      → AreJoined row.from (walk_length road (start_of line) (start_of target) rest)
  joined line row [] at on = record {
    line = row;
    at = subst (λ (l : ℕ). slice_get road.lines l ≡ Some row) on.ends at;
    count = zero;
    joins = (refl, rest_last road (start_of line) (start_of target));
  }
  joined line row (next ∷ rest) at on =
      let turn = on.turns.0 in
      let more =
      joined next turn.after rest turn.enters (behind_first on) in
      let meets = meets_there road line row.to (record { here = row; at = at; to = refl }) next
      turn in
      record {
        line = more.line;
        at = more.at;
        count = suc more.count;
        joins = (
          line,
          row,
          walk_length road (start_of next) (start_of target) rest,
          at,
          refl,
          subst (λ (node : ℕ). Joins road more.count node more.line.from
              (walk_length road (start_of next) (start_of target) rest)) meets more.joins,
          omega (
            arith,
            rest_more road (start_of line) (start_of target) next rest,
            length_here road
                line row at,
          ),
        );
      }

-- the goals are too far from the node for what is left
pub too_far : (search : Search) (goals : GoalLines) (node line at_end : ℕ)
    → search.goals ≡ Some goals → AreGoalsOn search.map.now goals → EndsAt search.map.now node line
    → search.limit < at_end + slice_index goals.least node → MayGoOn search line at_end → ⊥
too_far search goals node line at_end is on ends past (next, turn, useful) =
    let there = joined search.map.now search.class useful.target next turn.after useful.rest
    turn.enters useful.on in
    let asked = subst (λ (o : Option GoalLines). IsAskedFor
    (option_map (λ (g : GoalLines). g.lines) o) useful.target) is useful.is_asked in
    let here = meets_there search.map.now line node ends next turn in
    let length = walk_length search.map.now (start_of next) (start_of useful.target) useful.rest in
    let least = on useful.target node there.count length there.line asked there.at
    (subst (λ (n : ℕ). Joins search.map.now there.count n there.line.from length) here
    there.joins) in
    omega arith
