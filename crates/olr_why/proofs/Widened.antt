-- Greater tolerances keep what the lesser ones admit: the candidates, each at its place, the pairs
-- of each leg, and so each tuple of candidates. They keep also that a point has too many
-- candidates.
use Rattle.olr_why.proofs.Common.{AdmitsPlaces, AreAdmitted, AreAdmittedBehind, Bearing, Candidate, Class, HasMatching, IsCandidatePlace, Next, OneCandidateALine, Percent, Place, points_of, Radius, Reference, Slack, Tolerances, ◌≡◌, ℕ, zero, suc, ◌+◌, ◌-◌, ◌*◌, ◌/◌, ◌<◌, ◌≤◌, Bool, List, [], ◌∷◌, length, get_or, All, refl, sym, ◌∙◌, ap, subst, arith, ◌==◌, mul-le-mul_left, AreTooMany, IsCandidateAt, IsOneOf, HasTooMany, RoadMap, head_of, RoadLine, IsAdmitted, class_limit, greatest_admitted, least_admitted, Coordinates, coordinates_of, IsLeastLength, WiderKeeps}
use Rattle.olr_binary.specs.declared.point.Point.{Point}
use Rattle.olr_candidates.specs.Candidate.{penalty_of}
use Rattle.olr_why.proofs.AtMost.{AreAtMost, at_most_wider}

-- ---- numbers

less_widened : (start percent more slack longer : ℕ) → percent ≤ more → slack ≤ longer
    → start * (100 - more) / 100 - longer ≤ start * (100 - percent) / 100 - slack
less_widened start percent more slack longer wide long =
    let less : 100 - more ≤ 100 - percent = omega (arith, wide) in
    let times : start * (100 - more) ≤ start * (100 - percent) = mul-le-mul_left start less in
    omega (arith, times, long)

more_widened : (end percent more slack longer : ℕ) → percent ≤ more → slack ≤ longer
    → end * (100 + percent) / 100 + slack ≤ end * (100 + more) / 100 + longer
more_widened end percent more slack longer wide long =
    let greater : 100 + percent ≤ 100 + more = omega (arith, wide) in
    let times : end * (100 + percent) ≤ end * (100 + more) = mul-le-mul_left end greater in
    omega (arith, times, long)

module _ {before after : Tolerances} (at_most : AreAtMost before after) where
  -- ---- a candidate

  module _ (origin : Coordinates) (point : Point) (is_last : Bool) (lines : List RoadLine) where
    -- the line of a candidate is one with the greater tolerances too, at the same place
    still : (rank : ℕ) (candidate : Candidate)
        → IsCandidateAt before origin point is_last lines rank candidate
        → (other : Candidate) × IsCandidateAt after origin point is_last lines rank other
        × (other.place ≡ candidate.place)
    still rank candidate (line, line_is, it) =
        let other : Candidate = record {
          place = candidate.place;
          penalty = penalty_of after point (head_of line) it.projection;
        } in (
          other,
          (
            line,
            line_is,
            record {
              projection = it.projection;
              is_projection = it.is_projection;
              rates = record {
                conditions = record {
                  near = omega (arith, it.rates.conditions.near, at_most.each Radius);
                  alike = omega (arith, it.rates.conditions.alike, at_most.each Bearing);
                  classed = omega (arith, it.rates.conditions.classed, at_most.each Class);
                  on_line = it.rates.conditions.on_line;
                };
                line_is = it.rates.line_is;
                at_is = it.rates.at_is;
                penalty_is = refl;
              };
            },
          ),
          refl,
        )

    -- ---- too many candidates

    -- a candidate for each of a list, at the same place
    pub record AreStill (found more : List Candidate) : Type 0 where
      pub same_length : length more ≡ length found
      pub each : All (IsOneOf after origin point is_last lines) more
      pub places : (k : ℕ) (d : Candidate) → k < length found
          → (get_or more k d).place ≡ (get_or found k d).place

    one_more : (first next : Candidate) (found more : List Candidate)
        → IsOneOf after origin point is_last lines next → next.place ≡ first.place
        → AreStill found more → AreStill (first ∷ found) (next ∷ more)
    one_more first next found more is place rest =
        record { same_length = omega (arith, rest.same_length); each = each; places = places }
      where
        each : All (IsOneOf after origin point is_last lines) (next ∷ more)
        each zero d inside = is
        each (suc k) d inside = rest.each k d (omega (arith, inside))

        places : (k : ℕ) (d : Candidate) → k < length (first ∷ found)
            → (get_or (next ∷ more) k d).place ≡ (get_or (first ∷ found) k d).place
        places zero d inside = place
        places (suc k) d inside = rest.places k d (omega (arith, inside))

    all_still : (found : List Candidate) → All (IsOneOf before origin point is_last lines) found
        → (more : List Candidate) × AreStill found more
    all_still [] only = (
      [],
      record {
        same_length = refl;
        each = λ k d inside. absurd (omega (arith, inside));
        places = λ k d inside. absurd (omega (arith, inside));
      },
    )
    all_still (first ∷ found) only =
        let is : IsOneOf before origin point is_last lines first = only 0 first (omega arith) in
        let next = still is.0 first is.1 in
        let rest = all_still found (λ k d inside. only (suc k) d (omega (arith, inside))) in
        (next.0 ∷ rest.0, one_more first next.0 found rest.0 (is.0, next.1) next.2 rest.1)

    module _ (one_a_line : OneCandidateALine) where
      -- two candidates at one place are the same
      same_at_place : (a b : Candidate) → IsOneOf before origin point is_last lines a
          → IsOneOf before origin point is_last lines b → a.place ≡ b.place → a ≡ b
      same_at_place a b is also place =
          let rank : is.0 ≡ also.0 = sym is.1.2.rates.line_is ∙ ap (λ (p : Place). p.line) place
          ∙ also.1.2.rates.line_is in
          one_a_line before origin point is_last lines also.0 a b (rw rank at is.1) also.1

      still_too_many : AreTooMany before origin point is_last lines
          → AreTooMany after origin point is_last lines
      still_too_many many =
          let more = all_still many.found many.only in record {
            found = more.0;
            many = omega (arith, many.many, more.1.same_length);
            only = more.1.each;
            differ = λ i j d lt inside same.
                let within : j < length many.found = omega (arith, inside, more.1.same_length) in
                let first : i < length many.found = omega (arith, lt, within) in
                many.differ i j d lt within
                (same_at_place (get_or many.found i d) (get_or many.found j d) (many.only i d first)
                (many.only j d within)
                (sym (more.1.places i d first) ∙ ap (λ (c : Candidate). c.place) same
                ∙ more.1.places j d within));
          }

  -- a point has too many candidates with the greater tolerances too
  pub too_many : OneCandidateALine → (reference : Reference) (lines : List RoadLine) (index : ℕ)
      → HasTooMany before reference lines index → HasTooMany after reference lines index
  too_many one_a_line reference lines index it = record {
    first = it.first;
    point = it.point;
    first_is = it.first_is;
    point_is = it.point_is;
    just = still_too_many (coordinates_of it.first.at) it.point
        (index + 1 == length (points_of reference)) lines one_a_line it.just;
  }

  -- ---- tuples

  module _ (road : RoadMap) (reference : Reference) where
    candidate_place : (index : ℕ) (place : Place)
        → IsCandidatePlace road before reference index place
        → IsCandidatePlace road after reference index place
    candidate_place index place it =
        let found = still (coordinates_of it.is.first.at) it.is.point
        (index + 1 == length (points_of reference)) road.lines place.line it.candidate it.is.just in
        record {
          candidate = found.0;
          is = record {
            first = it.is.first;
            point = it.is.point;
            first_is = it.is.first_is;
            point_is = it.is.point_is;
            just = found.1;
          };
          place_is = found.2 ∙ it.place_is;
        }

    same_limit : (next : Next) → class_limit before next ≡ class_limit after next
    same_limit next = rw (at_most.lowest) refl

    admitted : (next : Next) (from to : Place) (length : ℕ)
        → IsAdmitted road before next from to length → IsAdmitted road after next from to length
    admitted next from to length it =
        let least : least_admitted after next ≤ least_admitted before next =
        less_widened (586 * next.interval) before.percent after.percent before.slack after.slack
        (at_most.each Percent) (at_most.each Slack) in
        let greatest : greatest_admitted before next ≤ greatest_admitted after next =
        more_widened (586 * (next.interval + 1)) before.percent after.percent before.slack
        after.slack (at_most.each Percent) (at_most.each Slack) in record {
          is_least = subst (λ (class : ℕ). IsLeastLength road class from to length)
              (same_limit next) it.is_least;
          at_least = omega (arith, least, it.at_least);
          at_most = omega (arith, greatest, it.at_most);
        }

    admits : (index : ℕ) (from to : Place) → AdmitsPlaces road before reference index from to
        → AdmitsPlaces road after reference index from to
    admits index from to it = record {
      next = it.next;
      leads_on = it.leads_on;
      length = it.length;
      admitted = admitted it.next from to it.length it.admitted;
    }

    behind : (index : ℕ) (from : Place) (rest : List Place)
        → AreAdmittedBehind road before reference index from rest
        → AreAdmittedBehind road after reference index from rest
    behind index from [] it = tt
    behind index from (to ∷ rest) (is, leg, more) = (
      candidate_place (index + 1) to is,
      admits index from to leg,
      behind (index + 1) to rest more,
    )

    places_admitted : (places : List Place) → AreAdmitted road before reference places
        → AreAdmitted road after reference places
    places_admitted [] it = tt
    places_admitted (place ∷ rest) (is, more) =
        (candidate_place 0 place is, behind 0 place rest more)

    -- and there is a matching with them too
    pub matching : HasMatching road before reference → HasMatching road after reference
    matching it = record {
      places = it.places;
      count_is = it.count_is;
      admitted = places_admitted it.places it.admitted;
    }

-- a wider tolerance keeps both
pub wider_keeps : OneCandidateALine → WiderKeeps
wider_keeps one_a_line road reference name value wider given before after differ at_most is also =
    let all : AreAtMost before after = at_most_wider at_most is also differ in
    (matching all road reference, too_many all one_a_line reference road.lines)
