-- The legs of a matching between its candidates.
use Rattle.std.proofs.Common.{◌≡◌, ℕ, ◌+◌, ◌<◌, List, [], ◌∷◌, ◌++◌, length, Some, sym, ap, subst, ◌∙◌, arith, slice_get, slice_index_or}
use Rattle.std.proofs.lemmas.List.{length_push}
use Rattle.std.proofs.lemmas.Option.{slice_get-get_or, slice_get_within}
use Rattle.olr_binary.specs.declared.point.Next.{Next}
use Rattle.olr_candidates.specs.Laws.{AreDepartures, ArePlaces}
use Rattle.olr_candidates.specs.declared.candidate.Candidate.{Candidate}
use Rattle.olr_matching.proofs.Admitted.{greatest_at_most}
use Rattle.olr_matching.proofs.Lists.{push_each, same_some}
use Rattle.olr_matching.proofs.Pairs.{is_departure, is_place, one_next}
use Rattle.olr_matching.specs.Layers.{AreLayersOn, LayersValue, LeadsOn}
use Rattle.olr_matching.specs.Matched.{AreCandidatesAt, IsLegAt, IsLegOf, IsOfRank}
use Rattle.olr_matching.specs.declared.matched.Leg.{Leg}
use Rattle.olr_matching.specs.declared.matched.Matched.{Matched}
use Rattle.olr_road.specs.RoadMap.{RoadMap}
use Rattle.olr_legs.specs.LegOnMap.{IsLegAtLayer, IsLegOnMap}
use Rattle.olr_legs.specs.Legs.{AreAlternatives, AreAlternativesAt, HasKey}
use Rattle.olr_legs.specs.declared.leg_on_map.LegOnMap.{LegOnMap}
use Rattle.olr_legs.specs.declared.legs.LegAlternatives.{LegAlternatives}

-- the candidate of a layer is that of its rank
of_rank : (candidates : List (List Candidate)) (ranks : List ℕ) (chosen : List Candidate)
    (layer : ℕ) (candidate : Candidate) → AreCandidatesAt candidates ranks chosen
    → slice_get chosen layer ≡ Some candidate
    → IsOfRank candidates layer (slice_index_or ranks layer 0) candidate
of_rank candidates ranks chosen layer candidate they is =
    let inside = slice_get_within chosen layer candidate is in
    they.each layer (slice_index_or ranks layer 0) candidate
    (slice_get-get_or ranks layer 0 (omega (arith, inside, they.count))) is

module _ (road : RoadMap) (layers : LayersValue) (matched : Matched)
    (key : HasKey road layers matched) where
  pub counts : length matched.legs + 1 ≡ length matched.candidates
  counts = key.1.legs.count

  -- the path of each leg has attributes
  pub leads_on : (layer : ℕ) → layer < length matched.legs
      → (next : Next) × LeadsOn layers.reference layer next
  leads_on layer inside =
      let none : Leg = record { length = 0; penalty = 0; route = [] } in
      let at = key.1.legs.each layer (slice_index_or matched.legs layer none)
      (slice_get-get_or matched.legs layer none inside) in
      (at.next, at.leads_on)

  module _ (places : ArePlaces) (departures : AreDepartures) (sound : AreLayersOn road layers)
      (layer : ℕ) (next : Next) (leg : LegOnMap) (is : IsLegAtLayer road layers matched layer next leg)
    where
      at : IsLegAt road layers matched.candidates layer is.leg
      at = key.1.legs.each layer is.leg is.part.leg_is

      leg_is : IsLegOf road layers.tolerances next is.from.place is.to.place is.leg
      leg_is =
          subst (λ (from : Candidate). IsLegOf road layers.tolerances next from.place is.to.place
          is.leg) (same_some (slice_get matched.candidates layer) at.from is.from at.from_is
          is.part.from_is)
          (subst (λ (to : Candidate). IsLegOf road layers.tolerances next at.from.place to.place
          is.leg) (same_some (slice_get matched.candidates (layer + 1)) at.to is.to at.to_is
          is.part.to_is)
          (subst (λ (next : Next). IsLegOf road layers.tolerances next at.from.place at.to.place
          is.leg) (one_next layers.reference layer at.next next at.leads_on is.part.leads_on)
          at.leg_is))

      first : IsOfRank layers.candidates layer (slice_index_or key.0.ranks layer 0) is.from
      first = of_rank layers.candidates key.0.ranks matched.candidates layer is.from
          key.1.candidates is.part.from_is

      second : IsOfRank layers.candidates (layer + 1) (slice_index_or key.0.ranks (layer + 1) 0) is.to
      second = of_rank layers.candidates key.0.ranks matched.candidates (layer + 1) is.to
          key.1.candidates is.part.to_is

      pub on_map : IsLegOnMap leg
      on_map = record {
        from = rw (is.map_is, is.starts_at) (is_departure road layers layer _ _ is.from is.to
            departures sound first second);
        to = rw (is.map_is, is.ends_at) (is_place road layers (layer + 1) _ is.to places sound second);
        least = rw (is.map_is, is.limit_is, is.starts_at, is.ends_at, is.length_is)
            leg_is.admitted.is_least;
        route = rw (is.map_is, is.limit_is, is.starts_at, is.ends_at, is.length_is, is.route_is)
            leg_is.route;
        short = omega (
          arith,
          is.length_is,
          leg_is.admitted.at_most,
          greatest_at_most layers.tolerances next,
        );
      }

  -- what else could be driven for a leg on the map is so for the leg from its layer
  pub at_layer : (near layer : ℕ) (next : Next) (leg : LegOnMap) (alternatives : LegAlternatives)
      → IsLegAtLayer road layers matched layer next leg
      → AreAlternatives leg.map.now leg.limit leg.from leg.to next leg.length leg.route.now near
      alternatives → AreAlternativesAt road layers matched near layer alternatives
  at_layer near layer next leg alternatives is are = record {
    next = next;
    from = is.from;
    to = is.to;
    leg = is.leg;
    part = is.part;
    are = rw (
      is.map_is,
      is.limit_is,
      is.starts_at,
      is.ends_at,
      is.length_is,
      is.route_is,
    ) at are;
  }

-- ---- all legs

-- what else could be driven for the legs so far
pub record AreSoFar (road : RoadMap) (layers : LayersValue) (matched : Matched) (near count : ℕ)
    (legs : List LegAlternatives) : Type 0 where
  pub long : length legs ≡ count
  pub each : (layer : ℕ) (alternatives : LegAlternatives)
      → slice_get legs layer ≡ Some alternatives
      → AreAlternativesAt road layers matched near layer alternatives

pub one_more : (road : RoadMap) (layers : LayersValue) (matched : Matched) (near count : ℕ)
    (legs more : List LegAlternatives) (next : LegAlternatives)
    → AreSoFar road layers matched near count legs
    → AreAlternativesAt road layers matched near count next → more ≡ legs ++ next ∷ []
    → AreSoFar road layers matched near (count + 1) more
one_more road layers matched near count legs more next so_far here is =
    subst (AreSoFar road layers matched near (count + 1)) (sym is) (record {
      long = length_push legs next ∙ ap (λ (n : ℕ). n + 1) so_far.long;
      each = push_each (AreAlternativesAt road layers matched near) legs next so_far.each
          (subst (λ (n : ℕ). AreAlternativesAt road layers matched near n next) (sym so_far.long)
          here);
    })
