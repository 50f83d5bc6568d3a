-- What holds of the parts of every matching.
use Rattle.olr_matching.proofs.Common.{Candidate, class_limit, IsDeparture, IsPlace, IsSoundMap, LayersValue, Leg, penalties_of, Piece, Place, points_of, RoadMap, ◌≡◌, ℕ, ◌+◌, List, length, sym, ap, ◌∙◌, zero-add, arith, None, Some, slice_get, slice_index_or, slice_get-get_or, slice_get_within, length-map, ArePlaces, AreDepartures, AreRoutePieces, IsRouteWithin, AreCandidatesAt, AreSound, IsLegAt, IsOfRank, IsSoundLeg}
use Rattle.olr_matching.proofs.Admitted.{greatest_at_most, one_length}
use Rattle.olr_matching.proofs.Keys.{ranks_count}
use Rattle.olr_matching.proofs.Pairs.{is_place, is_departure}

-- ---- a leg

abbrev pub PiecesOfRoute : Type 0
PiecesOfRoute = (road : RoadMap) (class : ℕ) (from to : Place) (limit : ℕ) (pieces : List Piece)
    → IsSoundMap road → IsDeparture road from → IsPlace road to
    → IsRouteWithin road class from to limit pieces → AreRoutePieces road class from to pieces

sound_leg : (road : RoadMap) (layers : LayersValue) (chosen : List Candidate) (layer : ℕ)
    (leg : Leg) → PiecesOfRoute → IsSoundMap road → (at : IsLegAt road layers chosen layer leg)
    → IsDeparture road at.from.place → IsPlace road at.to.place → IsSoundLeg road leg
sound_leg road layers chosen layer leg law map at departure place =
    let class = class_limit layers.tolerances at.next in
    let pieces = law road class at.from.place at.to.place leg.length
    leg.route map departure place at.leg_is.route in
    let same = one_length _ _ _ _ _ _ at.leg_is.admitted.is_least pieces.least in
    record {
      length_is = same;
      long = rw same pieces.positive;
      short = omega (arith, greatest_at_most layers.tolerances at.next);
      penalty_at_most = omega arith;
      pieces = pieces.on_map;
    }

-- ---- all parts

-- the candidate of a layer is that of its rank
of_rank : (candidates : List (List Candidate)) (ranks : List ℕ) (chosen : List Candidate)
    (layer : ℕ) (candidate : Candidate) → AreCandidatesAt candidates ranks chosen
    → slice_get chosen layer ≡ Some candidate
    → IsOfRank candidates layer (slice_index_or ranks layer 0) candidate
of_rank candidates ranks chosen layer candidate they is =
    let inside = slice_get_within chosen _ candidate is in
    they.each layer (slice_index_or ranks layer 0) candidate
    (slice_get-get_or ranks layer 0 (omega (arith, inside, they.count))) is

pub are_sound : ArePlaces → AreDepartures → PiecesOfRoute → AreSound
are_sound places departures law road layers key matched map sound is_key parts =
    let chosen = matched.candidates in
    let legs = matched.legs in
    let ranks = key.ranks in
    let count : length chosen ≡ length (points_of layers.reference) =
    parts.candidates.count ∙ sym (zero-add (length ranks))
    ∙ ranks_count layers.penalties 0 None ranks key.total is_key ∙ ap
    (λ (l : List (List ℕ)). length l) sound.penalties
    ∙ length-map layers.candidates penalties_of ∙ sound.lists.all in
    record {
      candidates = count;
      on_map = λ k d inside.
          let is : slice_get chosen k ≡ Some (slice_index_or chosen k d) =
          slice_get-get_or chosen k d inside in
          is_place road layers k (slice_index_or ranks k 0) (slice_index_or chosen k d) places sound
          (of_rank layers.candidates ranks chosen k (slice_index_or chosen k d) parts.candidates
          is);
      legs = parts.legs.count ∙ count;
      each = λ k d inside.
          let leg = slice_index_or legs k d in
          let at = parts.legs.each k leg (slice_get-get_or legs k d inside) in
          let from = of_rank layers.candidates ranks chosen k at.from parts.candidates at.from_is in
          let to = of_rank layers.candidates ranks chosen (k + 1) at.to parts.candidates at.to_is in
          sound_leg road layers chosen k leg law map at
          (is_departure road layers k (slice_index_or ranks k 0) (slice_index_or ranks (k + 1) 0)
          at.from at.to departures sound from to)
          (is_place road layers (k + 1) (slice_index_or ranks (k + 1) 0) at.to places sound to);
    }
