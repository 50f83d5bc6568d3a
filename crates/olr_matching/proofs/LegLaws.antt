-- The legs of layers: their penalties in the table, and the range of their lengths.
use Rattle.std.proofs.Math.ListN.{get_or-map as map_at}
use Rattle.olr_matching.proofs.Common.{Candidate, IsAdmittedLength, IsDeparture, leg_penalty, Next, Piece, Place, RoadMap, Tolerances, ◌≡◌, ℕ, ◌+◌, ◌-◌, ◌*◌, ◌≤◌, List, [], ◌∷◌, length, map, get_or, refl, sym, ◌∙◌, ap, add-one, arith, Option, None, Some, option_map, slice_index_or, unwrap_or, length-map, sum_by-cons, slice_get-map, Penalties, count_of, leg_at, AreLayersOn, IsCandidateOf, LayersValue, LeadsOn, leg_penalties, penalties_of, IsAdmittedPenalty, LegsAreAdmitted, PenaltiesAreOfCandidates}
use Rattle.olr_route.specs.Walk.{IsWalk, length_at, piece_length, pieces_from, walk_length}

-- ---- the table

-- the penalties of a layer, from those of all
pub layer_is : (penalties : Penalties) (lists : List (List Candidate)) (layer : ℕ)
    → penalties.candidates ≡ map penalties_of lists
    → slice_index_or penalties.candidates layer [] ≡ penalties_of (get_or lists layer [])
layer_is penalties lists layer is = ap (λ candidates. get_or candidates layer []) is
    ∙ map_at penalties_of lists layer []

-- how many candidates a layer has
pub count_is : (penalties : Penalties) (lists : List (List Candidate)) (layer : ℕ)
    → penalties.candidates ≡ map penalties_of lists
    → count_of penalties layer ≡ length (get_or lists layer [])
count_is penalties lists layer is = ap length (layer_is penalties _ _ is)
    ∙ length-map (get_or lists layer []) (λ candidate. candidate.penalty)

-- the table has the layers
pub layers_count : {road : RoadMap} {layers : LayersValue} → AreLayersOn road layers
    → length layers.penalties.candidates ≡ length layers.candidates
layers_count {layers} are = rw are.penalties (length-map layers.candidates penalties_of)

pub penalties_are : PenaltiesAreOfCandidates
penalties_are road layers layer index are =
    rw (add-one, layer_is layers.penalties _ _ are.penalties)
    (slice_get-map (λ candidate. candidate.penalty) (get_or layers.candidates layer []) index)

-- the penalty of a length that a leg admits
penalty_from : (road : RoadMap) (tolerances : Tolerances) (next : Next) (from to : Place)
    (length : Option ℕ) → IsAdmittedLength road tolerances next from to length
    → IsAdmittedPenalty road tolerances next from to (option_map (leg_penalty next) length)
penalty_from road tolerances next from to None none = none
penalty_from road tolerances next from to (Some length) admitted = (length, admitted, refl)

-- the penalty of a leg in the table is that of its length
pub leg_is : (penalties : Penalties) (lists : List (List Candidate)) (layer first second : ℕ)
    (lengths : List (Option ℕ)) (next : Next) → penalties.candidates ≡ map penalties_of lists
    → slice_index_or penalties.legs layer [] ≡ leg_penalties next lengths
    → leg_at penalties (layer + 1) first second ≡ option_map (leg_penalty next)
    (slice_index_or lengths ((first - 1) * length (get_or lists (layer + 1) [])
    + (second - 1)) None)
leg_is penalties lists layer first second lengths next candidates legs =
    let back : layer + 1 - 1 ≡ layer = omega arith in
    rw (back, count_is penalties lists (layer + 1) candidates, legs)
    (map_at (option_map (leg_penalty next)) lengths
    ((first - 1) * length (get_or lists (layer + 1) []) + (second - 1)) None)

-- what the table has for two candidates, by their ranks
pub leg_of_ranks : (road : RoadMap) (layers : LayersValue) (layer first second : ℕ) (next : Next)
    (from to : Candidate) → AreLayersOn road layers
    → LeadsOn layers.reference layer next → IsCandidateOf layers.candidates layer (first - 1) from
    → IsCandidateOf layers.candidates (layer + 1) (second - 1) to
    → IsAdmittedPenalty road layers.tolerances next from.place to.place
    (leg_at layers.penalties (layer + 1) first second)
leg_of_ranks road layers layer first second next from to are leads first_is second_is =
    rw (sym (leg_is layers.penalties layers.candidates layer first second
    (get_or layers.lengths layer []) next are.penalties (are.legs layer next leads))) at
    (penalty_from road layers.tolerances next from.place to.place _
    (are.lengths layer next (first - 1) (second - 1) from to leads first_is second_is))

pub legs_are : LegsAreAdmitted
legs_are road layers layer next first second from to are leads first_is second_is =
    let back : (n : ℕ) → n + 1 - 1 ≡ n = λ n. omega arith in
    leg_of_ranks _ _ _ _ (second + 1) next from to are leads (rw (back first) first_is)
    (rw (back second) second_is)

-- ---- lengths

-- each walk from a departure has a positive length
positive : (road : RoadMap) (class : ℕ) (from to : Place) (behind : List ℕ) → IsDeparture road from
    → IsWalk road class from to behind → 1 ≤ walk_length road from to behind
positive road class from to [] departure walk = omega (
  arith,
  walk.forwards refl,
  sum_by-cons piece_length (record { line = from.line; from = from.at; to = to.at }) [],
)
positive road class from to (next ∷ behind) departure walk =
    let whole = ap (λ o. unwrap_or (option_map (λ line. line.length) o) 0) departure.at_rank in
    let first : Piece = record {
      line = from.line;
      from = from.at;
      to = length_at road from.line;
    } in
    omega (arith, sum_by-cons piece_length first (pieces_from road next 0 behind to.at))
