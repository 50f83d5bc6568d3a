use Rattle.olr_matching.proofs.Common.{Candidate, IsDeparture, IsPlace, Covers}
use Rattle.olr_matching.proofs.Lists.{all_at}
use Rattle.olr_matching.proofs.Pairs.{has_walk, route_of_pair}
use Rattle.olr_matching.proofs.routes.Routes.search.Goals as goal

pub find_or_search-requires-clause-from : goal.find_or_search-requires-clause-from
find_or_search-requires-clause-from c =
    let leg = c.leg_on_map-leg.ensures in
    all_at (λ (first : Candidate). IsDeparture c.leg_on_map-leg.result.map.now first.place) _ _
    c.candidate.result (rw leg.firsts_are at leg.ends.departures) c.candidate.ensures.1

pub route_from-requires-clause-on_map : goal.route_from-requires-clause-on_map
route_from-requires-clause-on_map c =
    let leg = c.leg_on_map-leg.ensures in
    all_at (λ (second : Candidate). IsPlace c.leg_on_map-leg.result.map.now second.place) _ _
    c.candidate-2.result (rw leg.seconds_are at leg.ends.places) c.candidate-2.ensures.1

pub route_from-requires-clause-covers : goal.route_from-requires-clause-covers
route_from-requires-clause-covers c =
    let leg = c.leg_on_map-leg.ensures in
    let search = c.at.ensures _ _ c.in_ok-index.ensures.found in
    all_at (λ (second : Candidate). Covers c.at.result.now second.place.line) _ _
    c.candidate-2.result (rw leg.seconds_are at search.covers) c.candidate-2.ensures.1

pub unreachable-requires : goal.unreachable-requires
unreachable-requires c =
    has_walk c.self.inside.map.now c.self.inside.layers.now c.args.pair c.leg_on_map-leg.result
    c.candidate.result c.candidate-2.result c.at.result.now
    c.self.invariant.sound (rw (← c.self.view_is) at c.requires) c.leg_on_map-leg.ensures
    c.candidate.ensures c.candidate-2.ensures
    (c.at.ensures _ _ c.in_ok-index.ensures.found) (rw c.in_default.is at c.in_ok-pieces.ensures)

pub returns-clause-route : goal.returns-clause-route
returns-clause-route c = rw (← c.self.view_is)
    (route_of_pair c.self.inside.map.now c.self.inside.layers.now c.args.pair
    c.leg_on_map-leg.result c.candidate.result c.candidate-2.result c.at.result.now
    c.self.invariant.sound (rw (← c.self.view_is) at c.requires) c.leg_on_map-leg.ensures
    c.candidate.ensures c.candidate-2.ensures
    (c.at.ensures _ _ c.in_ok-index.ensures.found) c.in-Some.pieces.items
    (rw c.in-Some.is at c.in_ok-pieces.ensures))

pub route_from-requires-clause-held : goal.route_from-requires-clause-held
route_from-requires-clause-held c = (c.at.ensures _ _ c.in_ok-index.ensures.found).held

pub route_from-requires-clause-serves : goal.route_from-requires-clause-serves
route_from-requires-clause-serves c = (c.at.ensures _ _ c.in_ok-index.ensures.found).serves
