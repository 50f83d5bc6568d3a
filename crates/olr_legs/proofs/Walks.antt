-- Walks by their lines: their lengths, what is left of them, and those to the start of a line.
use Rattle.std.proofs.Common.{◌≡◌, ℕ, zero, suc, ◌+◌, ◌-◌, ◌<◌, List, [], ◌∷◌, ◌∙◌, ap, arith, length}
use Rattle.std.proofs.lemmas.Grind.{common_steps}
use Rattle.std.proofs.lemmas.List.Sums.{sum_by-cons}
use Rattle.std.proofs.lemmas.Option.{get_or_from_slice_get, slice_get_within}
use Rattle.std.specs.Prelude.{Option, Some, option_map, slice_get, unwrap_or}
use Rattle.olr_road.specs.Place.{IsDeparture, IsPlace}
use Rattle.olr_road.specs.RoadMap.{IsSoundMap, RoadLine, RoadMap}
use Rattle.olr_road.specs.declared.place.Place.{Place}
use Rattle.olr_route.specs.Steps.{ReachesStart, rest_of_line}
use Rattle.olr_route.specs.Turn.{IsOpen, IsTurn}
use Rattle.olr_route.specs.Walk.{IsWalk, LeadTo, length_at, start_of, walk_length}

-- the length of the line of a rank
pub length_here : (road : RoadMap) (rank : ℕ) (line : RoadLine)
    → slice_get road.lines rank ≡ Some line → length_at road rank ≡ line.length
length_here road rank line at =
    ap (λ (o : Option RoadLine). unwrap_or (option_map (λ (l : RoadLine). l.length) o) 0) at

-- a line that another one follows has a length
pub long_before_turn : (road : RoadMap) (a b : ℕ) → IsSoundMap road → IsTurn road a b
    → 0 < length_at road a
long_before_turn road a b sound turn =
    let long = (sound.lines.each a turn.before
    (slice_get_within road.lines a turn.before turn.leaves)).long in
    let same = get_or_from_slice_get road.lines a turn.before turn.before turn.leaves in
    omega (arith, length_here road a turn.before turn.leaves, ap (λ (l : RoadLine). l.length) same)

pub departure_length : (road : RoadMap) (place : Place) → IsDeparture road place
    → place.at < length_at road place.line
departure_length road place start =
    omega (arith, length_here road place.line start.line start.at_rank)

-- ---- lengths

-- a walk's length is the rest of the place's line and the length from the next line on
pub rest_more : (road : RoadMap) (place to : Place) (next : ℕ) (rest : List ℕ)
    → walk_length road place to (next ∷ rest) ≡ rest_of_line road place
    + walk_length road (start_of next) to rest
rest_more road place to next rest = grind (arith, common_steps, sum_by-cons)

pub rest_last : (road : RoadMap) (place to : Place)
    → walk_length road place to [] ≡ to.at - place.at
rest_last road place to = grind (arith, sum_by-cons)

-- ---- what is left of a walk

pub as_walk : {road : RoadMap} {class : ℕ} {place to : Place} {next : ℕ} {rest : List ℕ}
    → LeadTo road class place to (next ∷ rest) → IsWalk road class place to (next ∷ rest)
as_walk on = record { on = on; forwards = λ none. absurd cc }

pub at_once : (road : RoadMap) (class line : ℕ)
    → LeadTo road class (start_of line) (start_of line) []
at_once road class line = grind arith

pub lead_more : {road : RoadMap} {class : ℕ} {to : Place} {next : ℕ} {rest : List ℕ} (place : Place)
    → IsOpen road class place.line → IsTurn road place.line next
    → LeadTo road class (start_of next) to rest → LeadTo road class place to (next ∷ rest)
lead_more {road} {class} {to} {next} {rest} place clear turn on = grind arith

pub behind_first : {road : RoadMap} {class : ℕ} {place to : Place} {next : ℕ} {rest : List ℕ}
    → LeadTo road class place to (next ∷ rest) → LeadTo road class (start_of next) to rest
behind_first on = record {
  turns = on.turns.1;
  ends = on.ends;
  drivable = λ k d inside. on.drivable (suc k) d (omega arith);
}

pub first_open : {road : RoadMap} {class : ℕ} {place to : Place} {next : ℕ} {rest : List ℕ}
    → LeadTo road class place to (next ∷ rest) → place.at < length_at road place.line
    → IsOpen road class place.line
first_open {to = to} on before =
    on.drivable 0 (record { line = to.line; from = 0; to = to.at }) (omega arith) before

-- the first line of a walk to a place on the map is on it
pub first_inside : (road : RoadMap) (class line : ℕ) (to : Place) (rest : List ℕ) → IsPlace road to
    → LeadTo road class (start_of line) to rest → line < length road.lines
first_inside road class line to [] end on = grind (arith, slice_get_within)
first_inside road class line to (next ∷ rest) end on =
    slice_get_within road.lines line on.turns.0.before on.turns.0.leaves

-- ---- the lines that are reached

module _ (road : RoadMap) (class : ℕ) (from : Place) where
  -- a walk of this length to a place
  abbrev pub HasWalk : Place → ℕ → Type 0
  HasWalk to len = (behind : List ℕ) × IsWalk road class from to behind
      × (walk_length road from to behind ≡ len)

  -- A length that reaches the start of a line, and lines that lead on from there, make a walk.
  extend : (n line len : ℕ) → ReachesStart road class from n line len
      → (to : Place) (rest : List ℕ) → LeadTo road class (start_of line) to rest
      → HasWalk to (len + walk_length road (start_of line) to rest)
  extend zero line len reaches to rest on = (
    line ∷ rest,
    as_walk (lead_more _ reaches.0 reaches.1 on),
    omega (arith, rest_more road from to line rest),
  )
  extend (suc n) line len (before, so_far, reaches, clear, turn, long) to rest on =
      let found = extend n before so_far reaches to (line ∷ rest)
      (lead_more (start_of before) clear turn on) in (
        found.0,
        found.1,
        found.2 ∙ omega (arith, rest_more road (start_of before) to line rest, long),
      )

  -- so a walk goes to the start of each line that is reached
  pub walk_of : (n line len : ℕ) → ReachesStart road class from n line len
      → HasWalk (start_of line) len
  walk_of n line len reaches =
      let found = extend n line len reaches (start_of line) [] (at_once road class line) in
      (found.0, found.1, found.2 ∙ omega (arith, rest_last road (start_of line) (start_of line)))
