-- The start of a line is reached after some length just where a walk to that start has this length.
-- So a search in which every line is relaxed holds the least lengths.
use Rattle.std.proofs.lemmas.Grind.{common_steps}
use Rattle.std.proofs.lemmas.List.Sums.{sum_by-cons}
use Rattle.olr_route.proofs.Common.{RoadMap, IsSoundMap, Place, Piece, IsOpen, IsTurn, length_at, walk_length, IsWalk, start_of, LeadTo, ReachesStart, rest_of_line, IsAskedFor, IsKnownWithin, IsRelaxed, IsUseful, IsDeparture, IsLengthWithin, HasWalksTo, ◌≡◌, ℕ, zero, suc, ◌+◌, ◌-◌, ◌<◌, List, [], ◌∷◌, ◌∙◌, refl, ap, arith, ◌≤◌, Option, Some, None, IsSearch}
use Rattle.olr_route.proofs.Lines.{long_before_turn, length_here}

pub departure_length : (road : RoadMap) (place : Place) → IsDeparture road place
    → place.at < length_at road place.line
departure_length road place start =
    omega (arith, length_here road place.line start.line start.at_rank)

-- a walk's length is the rest of the place's line and the length from the next line on
pub rest_more : (road : RoadMap) (place to : Place) (next : ℕ) (rest : List ℕ)
    → walk_length road place to (next ∷ rest) ≡ rest_of_line road place
    + walk_length road (start_of next) to rest
rest_more road place to next rest = grind (arith, common_steps, sum_by-cons)

pub rest_last : (road : RoadMap) (place to : Place)
    → walk_length road place to [] ≡ to.at - place.at
rest_last road place to = grind (arith, sum_by-cons)

-- a walk is at least one decimetre long
pub long_walk : (road : RoadMap) (from to : Place) (behind : List ℕ) → IsDeparture road from
    → (behind ≡ [] → from.at < to.at) → 1 ≤ walk_length road from to behind
long_walk road from to [] start forwards = omega (arith, rest_last road from to, forwards refl)
long_walk road from to (next ∷ behind) start forwards =
    omega (arith, rest_more road from to next behind, departure_length road from start)

-- the piece up to a place from its line's start
abbrev pub last_piece : Place → Piece
last_piece to = record { line = to.line; from = 0; to = to.at }

-- ---- what is left of a walk

pub as_walk : {road : RoadMap} {class : ℕ} {place to : Place} {next : ℕ} {rest : List ℕ}
    → LeadTo road class place to (next ∷ rest) → IsWalk road class place to (next ∷ rest)
as_walk on = record { on = on; forwards = λ none. absurd cc }

pub at_once : (road : RoadMap) (class line : ℕ)
    → LeadTo road class (start_of line) (start_of line) []
at_once road class line = grind arith

pub lead_more : {road : RoadMap} {class : ℕ} {to : Place} {next : ℕ} {rest : List ℕ} (place : Place)
    → IsOpen road class place.line → IsTurn road place.line next
    → LeadTo road class (start_of next) to rest → LeadTo road class place to (next ∷ rest)
lead_more {road} {class} {to} {next} {rest} place clear turn on = grind arith

pub behind_first : {road : RoadMap} {class : ℕ} {place to : Place} {next : ℕ} {rest : List ℕ}
    → LeadTo road class place to (next ∷ rest) → LeadTo road class (start_of next) to rest
behind_first on = record {
  turns = on.turns.1;
  ends = on.ends;
  drivable =
      λ k d inside. on.drivable (suc k) d (omega arith);
}

pub first_open : {road : RoadMap} {class : ℕ} {place to : Place} {next : ℕ} {rest : List ℕ}
    → LeadTo road class place to (next ∷ rest) → place.at < length_at road place.line
    → IsOpen road class place.line
first_open {to = to} on before = on.drivable 0 (last_piece to) (omega arith) before

-- ---- the lines that are reached

module _ (road : RoadMap) (class : ℕ) (from : Place) where
  -- a walk of this length to a place
  abbrev pub HasWalk : Place → ℕ → Type 0
  HasWalk to len = (behind : List ℕ) × IsWalk road class from to behind
      × (walk_length road from to behind ≡ len)

  -- A length that reaches the start of a line, and lines that lead on from there, make a walk.
  pub extend : (n line len : ℕ) → ReachesStart road class from n line len
      → (to : Place) (rest : List ℕ) → LeadTo road class (start_of line) to rest
      → HasWalk to (len + walk_length road (start_of line) to rest)
  extend zero line len reaches to rest on = (
    line ∷ rest,
    as_walk (lead_more _ reaches.0 reaches.1 on),
    omega (arith, rest_more road from to line rest),
  )
  extend (suc n) line len (before, so_far, reaches, clear, turn, long) to rest on =
      let found = extend n before so_far reaches to (line ∷ rest)
      (lead_more (start_of before) clear turn on) in (
        found.0,
        found.1,
        found.2 ∙ omega
            (arith, rest_more road (start_of before) to line rest, long),
      )

  -- so a walk goes to the start of each line that is reached
  pub walk_of : (n line len : ℕ) → ReachesStart road class from n line len
      → HasWalk (start_of line) len
  walk_of n line len reaches =
      let found = extend n line len reaches (start_of line) [] (at_once road class line) in
      (found.0, found.1, found.2 ∙ omega (arith, rest_last road (start_of line) (start_of line)))

  -- Conversely, a walk to the start of a line reaches it.
  module _ (sound : IsSoundMap road) where
    follow : (n line len : ℕ) → ReachesStart road class from n line len
        → (target : ℕ) (rest : List ℕ) → LeadTo road class (start_of line) (start_of target) rest
        → (sum : ℕ) → sum ≡ len + walk_length road (start_of line) (start_of target) rest → (m : ℕ)
        × ReachesStart road class from m target sum
    follow n line len reaches target [] on sum long =
        let same : len ≡ sum =
        omega (arith, rest_last road (start_of line) (start_of target)) in grind arith
    follow n line len reaches target (next ∷ rest) on sum long =
        follow (suc n) next (len + length_at road line) (
          line,
          len,
          reaches,
          first_open on (long_before_turn road line next sound on.turns.0),
          on.turns.0,
          refl,
        ) target rest (behind_first on) sum
        (omega (arith, rest_more road (start_of line) (start_of target) next rest))

    pub reached : from.at < length_at road from.line → (line : ℕ) (behind : List ℕ)
        → IsWalk road class from (start_of line) behind
        → (n : ℕ) × ReachesStart road class from n line
        (walk_length road from (start_of line) behind)
    reached before line [] is = absurd (omega (arith, is.forwards refl))
    reached before line (next ∷ rest) is =
        follow zero next (rest_of_line road from) (first_open is.on before, is.on.turns.0, refl)
        line rest (behind_first is.on) _ (rest_more road from (start_of line) next rest)

-- ---- searches

pub within_more : (known : Option ℕ) (a b : ℕ) → a ≤ b → IsKnownWithin known a
    → IsKnownWithin known b
within_more None a b le is = is
within_more (Some len) a b le is = omega arith

-- the length that is known
known_length : (known : Option ℕ) (len : ℕ) → IsKnownWithin known len → (old : ℕ)
    × (known ≡ Some old) × (old ≤ len)
known_length None len is = absurd is
known_length (Some old) len is = (old, refl, is)

module _ (road : RoadMap) (class : ℕ) (asked : Option (List ℕ)) where
  pub useful_within : {limit line len : ℕ} → IsUseful road class asked limit line len → len ≤ limit
  useful_within is = omega arith

  -- a lesser length is useful, too, and one up to a farther limit
  pub useful_more : {limit line len : ℕ} (farther less : ℕ) → limit ≤ farther → less ≤ len
      → IsUseful road class asked limit line len → IsUseful road class asked farther line less
  useful_more farther less far le is = grind arith

  -- so is the length to the line before
  useful_before : {limit len : ℕ} (line next : ℕ) → IsOpen road class line → IsTurn road line next
      → IsUseful road class asked limit next (len + length_at road line)
      → IsUseful road class asked limit line len
  useful_before line next clear turn is = record {
    target = is.target;
    is_asked = is.is_asked;
    rest = next ∷ is.rest;
    on = lead_more _ clear turn is.on;
    within = omega (
      arith,
      rest_more road (start_of line) (start_of is.target) next
          is.rest,
    );
  }

  -- the length to a line that is asked for
  useful_here : {limit : ℕ} (line len : ℕ) → IsAskedFor asked line → len ≤ limit
      → IsUseful road class asked limit line len
  useful_here line len is within = grind (arith, at_once, rest_last)

module _ (road : RoadMap) (class : ℕ) (from : Place) (asked : Option (List ℕ)) (limit : ℕ)
    (table : ℕ → Option ℕ) (search : IsSearch road class from asked limit table)
    (all : (line : ℕ) → IsRelaxed road class asked limit table line) where
  -- each useful length that reaches the start of a line is known, or a lesser one
  pub known : (n line len : ℕ) → ReachesStart road class from n line len
      → IsUseful road class asked limit line len → IsKnownWithin (table line) len
  known zero line len (clear, turn, long) useful = grind arith
  known (suc n) line len (before, so_far, reaches, clear, turn, long) useful =
      let there = rw long at useful in
      let old = known_length _ _
      (known n before so_far reaches (useful_before road class asked before line clear turn
      there)) in
      within_more (table line) (old.0 + length_at road before) len (omega arith)
      (all before old.0 line old.1 clear turn
      (useful_more road class asked limit (old.0 + length_at road before) (omega arith)
      (omega arith) there))

  -- along a walk of least length to a line that is asked for the lengths are known
  pub walks_known : (target : ℕ) → IsAskedFor asked target
      → HasWalksTo road class from limit table target
  walks_known target is n line len rest reaches on least shortest long within =
      let old = known_length _ _
      (known n _ len reaches (record {
        target = target;
        is_asked = is;
        rest = rest;
        on =
            on;
        within = omega arith;
      })) in
      let sound = search.sound line old.0 old.1 in
      let other = extend road class from sound.1.0 line old.0 sound.1.1 (start_of target) rest on in
      old.1 ∙ ap Some (let same : old.0 ≡ len =
      omega (arith, shortest.least other.0 other.1) in same)

  module _ (sound : IsSoundMap road) (start : IsDeparture road from) where
    answer : (line : ℕ) (known_here : Option ℕ)
        → ((len : ℕ) → known_here ≡ Some len → (len ≤ limit)
        × ((n : ℕ) × ReachesStart road class from n line len))
        → ((n len : ℕ) → ReachesStart road class from n line len → len ≤ limit
        → IsKnownWithin known_here len)
        → IsLengthWithin road class from (start_of line) limit known_here
    answer line None sounds all = λ behind is.
        let found = reached _ _ _ sound (departure_length _ _ start) line behind
        is in
        let never = all found.0 (walk_length road from (start_of line) behind) found.1 in
        grind arith
    answer line (Some len) sounds all =
        let old = sounds len refl in
        let made = walk_of road class from old.1.0 line len old.1.1 in (
          record {
            behind = made.0;
            is = made.1;
            long = made.2;
            least = λ other is.
                let found = reached road class from sound (departure_length road from start) line
                other is in
                let within = all found.0 (walk_length road from (start_of line) other) found.1 in
                grind arith;
          },
          old.0,
        )

    pub found : (line : ℕ) → IsAskedFor asked line
        → IsLengthWithin road class from (start_of line) limit (table line)
    found line is = answer line (table line) (search.sound line)
        (λ n len reaches within. known n line len reaches
        (useful_here road class asked line len is within))
