-- Rows of lengths, and the searches that tell them.
use Rattle.olr_matching.proofs.Common.{Candidate, IsAdmittedLength, Next, Place, Reference, RoadMap, Tolerances, ℕ, ◌+◌, ◌*◌, ◌<◌, ◌≤◌, List, [], ◌∷◌, ◌++◌, length, get_or, sym, subst, ap, ◌∙◌, arith, All, Option, None, add-mul, mul-le-mul_right, one-mul, get_or-append-add, get_or_append_left, get_or_at, get_or-map, length-append, length-map, slice_get_within, IsLegFrom, AreLengthsBetween, AreLengthsOfLeg, AreLengthsTo, places_of, LegOnMap}
use Rattle.olr_matching.proofs.Lists.{push_each}
use Rattle.olr_matching.proofs.Pairs.{one_next}

-- what the list of candidates is read with past its end
abbrev pub no_candidate : Candidate
no_candidate = record { place = record { line = 0; at = 0 }; penalty = 0 }

-- ---- rows

-- the places of an earlier row come before those of a later one
row_below : (row column width later : ℕ) → row < later → column < width
    → row * width + column < later * width
row_below row column width later earlier inside =
    let whole : (row + 1) * width ≤ later * width =
    mul-le-mul_right width (omega (arith, earlier)) in
    omega (arith, whole, add-mul row 1 width, one-mul width, inside)

module _ (road : RoadMap) (tolerances : Tolerances) (next : Next) (seconds : List Candidate) where
  -- one row more
  pub one_more_row : (firsts : List Candidate) (first : Candidate) (lengths row : List (Option ℕ))
      → AreLengthsBetween road tolerances next firsts seconds lengths
      → AreLengthsTo road tolerances next first.place seconds row
      → AreLengthsBetween road tolerances next (firsts ++ first ∷ []) seconds (lengths ++ row)
  one_more_row firsts first lengths row so_far more =
      let width = length seconds in
      let product = ap (λ n. n * width) (length-append firsts (first ∷ [])) in
      record {
        pairs = omega (
          arith,
          length-append lengths row,
          add-mul (length firsts) 1 width,
          one-mul width,
        );
        each = λ index second from to from_is to_is.
            let Has : Candidate → Option ℕ → Type 0 =
            λ at length. IsAdmittedLength road tolerances next at.place to.place length in
            let column = slice_get_within seconds second to to_is in
            push_each _ _ _
            (λ k at is. subst (Has at)
            (sym (get_or_append_left lengths row None (k * width + second)
            (omega (
              arith,
              row_below k second width (length firsts) (slice_get_within firsts k at is) column,
            )))) (so_far.each k second at to is to_is))
            (rw (sym (ap (λ (n : ℕ). get_or (lengths ++ row) (n + second) None) (sym so_far.pairs)
            ∙ get_or-append-add lengths row second None)) at (more.each second to to_is))
            _ _ from_is;
      }

-- one length more of a row
pub one_more_length : (road : RoadMap) (tolerances : Tolerances) (next : Next) (from : Place)
    (seconds : List Candidate) (second : Candidate)
    (row : List (Option ℕ)) (found : Option ℕ) → AreLengthsTo road tolerances next from seconds row
    → IsAdmittedLength road tolerances next from second.place found
    → AreLengthsTo road tolerances next from (seconds ++ second ∷ []) (row ++ found ∷ [])
one_more_length road tolerances next from seconds second row found so_far here =
    let Has : Candidate → Option ℕ → Type 0 =
    λ to length. IsAdmittedLength road tolerances next from to.place length in
    record {
      count = omega (arith, length-append seconds (second ∷ []), length-append row (found ∷ []));
      each = push_each _ _ _
          (λ k to is. rw
          (sym (get_or_append_left row (found ∷ []) None k
          (omega (arith, so_far.count, slice_get_within seconds k to is)))) at
          (so_far.each k to is))
          (rw (sym (get_or_at row found [] None (length seconds) so_far.count)) at here);
    }

-- the lengths of a leg, between the candidates of its points
pub lengths_of_leg : (road : RoadMap) (tolerances : Tolerances) (reference : Reference)
    (candidates : List (List Candidate)) (layer : ℕ) (leg : LegOnMap)
    (lengths : List (Option ℕ)) → IsLegFrom road tolerances reference candidates layer leg
    → AreLengthsBetween leg.map.now leg.tolerances leg.next leg.firsts.now leg.seconds.now lengths
    → AreLengthsOfLeg road tolerances reference candidates layer lengths
lengths_of_leg road tolerances reference candidates layer leg lengths is they next leads = rw (
  is.map_is,
  is.tolerances_are,
  is.firsts_are,
  is.seconds_are,
  one_next _ _ _ _ is.leads_on leads,
) at they

-- ---- the places of candidates

-- what holds of the place of each
pub all_of_places : (P : Place → Type 0) (candidates : List Candidate)
    → All P (places_of candidates) → All (λ (candidate : Candidate). P candidate.place) candidates
all_of_places P candidates they = λ k d inside.
    rw (get_or-map (λ (candidate : Candidate). candidate.place) candidates k d d.place inside) at
    (they k d.place
    (omega (arith, inside, length-map candidates (λ (candidate : Candidate). candidate.place))))
