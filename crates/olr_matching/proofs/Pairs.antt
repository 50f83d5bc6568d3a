-- Pairs of candidates that a leg admits, and the route between them.
use Rattle.olr_matching.proofs.Common.{Candidate, IsDeparture, IsPlace, Next, Piece, points_of, Reference, RoadMap, Tolerances, ◌≡◌, ℕ, ◌+◌, ◌-◌, ◌<◌, ◌≤◌, List, [], length, sym, subst, ap, ◌∙◌, arith, Some, slice_get, slice_index_or, MatchOption-at_some, get_or_from_slice_get, slice_get-get_or, Point, ArePlaces, AreDepartures, AreCandidatesOf, HasNoWalkWithin, Lengths, IsRouteWithin, walk_length, LayersValue, AreLayersOn, IsCandidateOf, LeadsOn, length_at, IsAdmitted, class_limit, greatest_admitted, leg_penalty, IsLegFrom, IsOfRank, IsPair, IsRouteOfPair, IsLegOfPair, IsAdmittedPair, IsSearchFor, LegOnMap}
use Rattle.olr_matching.specs.declared.pair.Pair.{Pair}
use Rattle.olr_matching.proofs.Lists.{same_some, list_inside, all_at}

-- ---- one point

-- the attributes that are read at a point that leads on
pub leads_on_at : (reference : Reference) (layer : ℕ) (next known : Next) (points : List Point)
    (d : Point) → LeadsOn reference layer known → points ≡ points_of reference
    → (slice_index_or points layer d).next ≡ Some next → LeadsOn reference layer next
leads_on_at reference layer next known points d h same is = record {
  point = h.point;
  point_is = h.point_is;
  next_is = ap (λ (p : Point). p.next)
      (sym (get_or_from_slice_get (points_of reference) layer h.point d h.point_is) ∙ ap
      (λ (l : List Point). slice_index_or l layer d) (sym same)) ∙ is;
}

pub one_next : (reference : Reference) (layer : ℕ) (a b : Next) → LeadsOn reference layer a
    → LeadsOn reference layer b → a ≡ b
one_next reference layer a b one other =
    let same : one.point ≡ other.point =
    same_some (slice_get (points_of reference) layer) one.point other.point one.point_is
    other.point_is in
    same_some other.point.next a b (ap (λ (p : Point). p.next) (sym same) ∙ one.next_is)
    other.next_is

-- ---- places

-- the candidates of a layer are those of its point
pub candidates_at : (road : RoadMap) (layers : LayersValue) (layer index : ℕ)
    (candidate : Candidate) → AreLayersOn road layers
    → IsCandidateOf layers.candidates layer index candidate
    → AreCandidatesOf layers.tolerances layers.reference road.lines layer
    (slice_index_or layers.candidates layer [])
candidates_at road layers layer index candidate sound is =
    let inside = list_inside layers.candidates layer index candidate is in
    (sound.lists.each layer (slice_index_or layers.candidates layer [])
    (slice_get-get_or layers.candidates layer [] inside)).0

pub is_place : (road : RoadMap) (layers : LayersValue) (layer rank : ℕ) (candidate : Candidate)
    → ArePlaces → AreLayersOn road layers → IsOfRank layers.candidates layer rank candidate
    → IsPlace road candidate.place
is_place road layers layer rank candidate places sound is =
    let here = slice_index_or layers.candidates layer [] in
    all_at (λ (c : Candidate). IsPlace road c.place) here (rank - 1) candidate
    (places layers.tolerances layers.reference road layer here
    (candidates_at road layers layer (rank - 1) candidate sound is.1)) is.1

pub is_departure : (road : RoadMap) (layers : LayersValue) (layer rank after : ℕ)
    (candidate next : Candidate) → AreDepartures → AreLayersOn road layers
    → IsOfRank layers.candidates layer rank candidate
    → IsOfRank layers.candidates (layer + 1) after next → IsDeparture road candidate.place
is_departure road layers layer rank after candidate next departures sound is behind =
    let here = slice_index_or layers.candidates layer [] in
    let inside : layer + 1 < length (points_of layers.reference) =
    subst (λ (n : ℕ). layer + 1 < n) sound.lists.all
    (list_inside layers.candidates (layer + 1) (after - 1) next behind.1) in
    all_at (λ (c : Candidate). IsDeparture road c.place) here (rank - 1) candidate
    (departures layers.tolerances layers.reference road layer here inside
    (candidates_at road layers layer (rank - 1) candidate sound is.1)) is.1

-- ---- legs

-- the leg admits the pair with its length
pub admitted : (road : RoadMap) (layers : LayersValue) (layer first second length : ℕ)
    → AreLayersOn road layers → (pair : IsPair layers layer first second length)
    → IsAdmitted road layers.tolerances pair.next pair.from.place pair.to.place length
admitted road layers layer first second length sound pair = MatchOption-at_some
    ((length : ℕ) → IsAdmitted road layers.tolerances pair.next pair.from.place pair.to.place length
    → ⊥) (IsAdmitted road layers.tolerances pair.next pair.from.place pair.to.place) length
    pair.length_is
    (sound.lengths layer pair.next (first - 1) (second - 1) pair.from pair.to pair.leads_on
    pair.from_is.1 pair.to_is.1)

-- ---- a search for a leg

module _ (road : RoadMap) (layers : LayersValue) (pair : Pair) (leg : LegOnMap)
    (from to : Candidate) (reach : Lengths) (sound : AreLayersOn road layers)
    (admits : IsAdmittedPair layers pair)
    (leg_is : IsLegFrom road layers.tolerances layers.reference layers.candidates pair.layer
    leg)
    (from_is : IsOfRank layers.candidates pair.layer pair.first from)
    (to_is : IsOfRank layers.candidates (pair.layer + 1) pair.second to)
    (search : IsSearchFor leg from.place reach) where
  class_is : reach.class ≡ class_limit layers.tolerances leg.next
  class_is = search.class ∙ ap (λ (t : Tolerances). class_limit t leg.next) leg_is.tolerances_are

  abbrev known : IsPair layers pair.layer pair.first pair.second admits.length
  known = record {
    next = leg.next;
    from = from;
    to = to;
    leads_on = leg_is.leads_on;
    from_is = from_is;
    to_is = to_is;
    length_is = admits.is.length_is;
  }

  here : IsAdmitted road layers.tolerances leg.next from.place to.place admits.length
  here = admitted road layers pair.layer pair.first pair.second admits.length sound known

  -- some walk is within the limit of the search
  pub has_walk : HasNoWalkWithin leg.map.now reach.class from.place to.place reach.limit → ⊥
  has_walk none =
      let longer = (rw (leg_is.map_is, class_is) at none) here.is_least.behind here.is_least.is in
      omega (
        arith,
        longer,
        here.at_most,
        search.limit,
        ap (λ (t : Tolerances). greatest_admitted t leg.next) leg_is.tolerances_are,
        here.is_least.long,
      )

  -- the route within that limit is that within the least length
  pub route_of_pair : (pieces : List Piece)
      → IsRouteWithin leg.map.now reach.class from.place to.place reach.limit pieces
      → IsRouteOfPair road layers pair.layer pair.first pair.second pieces
  route_of_pair pieces found =
      let route : IsRouteWithin road (class_limit layers.tolerances leg.next) from.place to.place
      reach.limit pieces = rw (leg_is.map_is, class_is) at found in
      record {
        length = admits.length;
        pair = known;
        route = record {
          behind = route.behind;
          is = route.is;
          within = subst (λ (n : ℕ). walk_length road from.place to.place route.behind ≤ n)
              here.is_least.long (route.is.least here.is_least.behind here.is_least.is);
          pieces_are = route.pieces_are;
        };
      }

-- the leg with that route
pub leg_of_pair : (road : RoadMap) (layers : LayersValue)
    (layer first second long length penalty : ℕ) (next : Next) (pieces : List Piece)
    → IsPair layers layer first second long
    → LeadsOn layers.reference layer next → penalty ≡ leg_penalty next long → length ≡ long
    → AreLayersOn road layers → IsRouteOfPair road layers layer first second pieces
    → IsLegOfPair road layers layer first second record {
      length = length;
      penalty = penalty;
      route = pieces;
    }
leg_of_pair road layers layer first second long length penalty next pieces known leads_on is same
    sound route =
    let pair = route.pair in
    let one : long ≡ route.length =
    same_some (length_at layers layer (first - 1) (second - 1)) long route.length
    known.length_is pair.length_is in
    let here : IsPair layers layer first second length = record {
      next = pair.next;
      from = pair.from;
      to = pair.to;
      leads_on = pair.leads_on;
      from_is = pair.from_is;
      to_is = pair.to_is;
      length_is = pair.length_is ∙ ap Some (sym one) ∙ ap Some (sym same);
    } in record {
      pair = here;
      leg_is = record {
        admitted = admitted road layers layer first second length sound here;
        penalty = is ∙ ap (λ (n : Next). leg_penalty n long)
            (one_next layers.reference layer next pair.next leads_on pair.leads_on) ∙ ap
            (leg_penalty pair.next) (sym same);
        route = subst (λ (n : ℕ). IsRouteWithin road (class_limit layers.tolerances pair.next)
            pair.from.place pair.to.place n pieces) (sym one ∙ sym same) route.route;
      };
    }
