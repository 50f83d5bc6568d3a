use Rattle.std.proofs.Common.{◌≡◌, ◌+◌, List, length, refl, ap, ◌∙◌, arith, get_or}
use Rattle.std.proofs.lemmas.Option.{slice_get-get_or, slice_get_read}
use Rattle.olr_candidates.specs.declared.candidate.Candidate.{Candidate}
use Rattle.olr_candidates.specs.declared.tolerances.Tolerances.{Tolerances}
use Rattle.olr_matching.specs.Leg.{class_limit}
use Rattle.olr_matching.specs.declared.matched.Leg.{Leg}
use Rattle.olr_matching.specs.declared.matched.Matched.{Matched}
use Rattle.olr_legs.proofs.LegParts.{counts, on_map}
use Rattle.olr_legs.proofs.legs.leg_at.Goals as goal

none : Candidate
none = record { place = record { line = 0; at = 0 }; penalty = 0 }

pub returns-clause-layer : goal.returns-clause-layer
unfolding none
returns-clause-layer c =
    let matched = c.args.matched.now in
    let layer = c.args.layer in
    let count = counts c.args.map.now c.args.layers.now matched c.requires.key in
    let chosen : c.as_slice-candidates.result.now ≡ matched.candidates =
    c.as_slice-candidates.ensures.value
    ∙ ap (λ (matched : Matched). matched.candidates) c.matched.view_is in
    let legs : c.matched.inside.legs.items ≡ matched.legs =
    ap (λ (matched : Matched). matched.legs) c.matched.view_is in
    record {
      from = get_or matched.candidates layer none;
      to = get_or matched.candidates (layer + 1) none;
      leg = c.index-leg.result.now;
      part = record {
        leads_on = c.requires.next;
        from_is = slice_get-get_or matched.candidates layer none (omega (arith, c.requires.within));
        to_is = slice_get-get_or matched.candidates (layer + 1) none
            (omega (arith, c.requires.within));
        leg_is = slice_get_read matched.legs (length matched.legs) layer c.index-leg.result.now refl
            c.requires.within (c.index-leg.ensures
            ∙ ap (λ (legs : List Leg). get_or legs layer c.index-leg.result.now) legs);
      };
      map_is = refl;
      limit_is = c.class_limit.ensures
          ∙ ap (λ (t : Tolerances). class_limit t c.args.next.now) c.tolerances.ensures;
      starts_at = ap (λ (l : List Candidate). (get_or l layer none).place) chosen;
      ends_at = ap (λ (l : List Candidate). (get_or l (layer + 1) none).place) chosen;
      route_is = c.deref.ensures.value ∙ ap (λ (leg : Leg). leg.route) c.leg.view_is;
      length_is = ap (λ (leg : Leg). leg.length) c.leg.view_is;
    }

pub returns-clause-on_map : goal.returns-clause-on_map
returns-clause-on_map c = on_map c.args.map.now c.args.layers.now c.args.matched.now c.requires.key
    c.places.ensures.places c.places.ensures.departures c.requires.layers c.args.layer
    c.args.next.now _ (returns-clause-layer c)
