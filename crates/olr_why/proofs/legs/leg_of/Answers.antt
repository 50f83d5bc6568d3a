use Rattle.std.proofs.lemmas.List.Sums.{count_by-le-length}
use Rattle.olr_road.specs.Place.{IsDeparture, IsPlace}
use Rattle.olr_why.proofs.Common.{Candidate, ℕ, ◌+◌, List, length, ap, arith, Option, is_some, All-take, list_of}
use Rattle.olr_why.proofs.Lacking.{layer_leads_on, lengths_at_most}
use Rattle.olr_why.proofs.legs.leg_of.Goals as goal

pub next_of-next-requires : goal.next_of-next-requires
next_of-next-requires c =
    rw c.reference.ensures (layer_leads_on c.args.layer c.requires.layers c.requires.within)

pub overflow_cast-admits : goal.overflow_cast-admits
overflow_cast-admits c =
    let most = lengths_at_most c.args.layer c.requires.layers c.requires.within in
    let count = count_by-le-length is_some c.lengths.result.now in
    omega (
      arith,
      count,
      most,
      c.admitted-admits.ensures,
      ap (λ (l : List (Option ℕ)). length l) c.lengths.ensures,
    )

pub pairs_where_none-requires : goal.pairs_where_none-requires
pairs_where_none-requires c =
    let on = c.requires.layers in
    let IsFrom : Candidate → Type 0 = λ candidate. IsDeparture c.args.map.now candidate.place in
    let IsTo : Candidate → Type 0 = λ candidate. IsPlace c.args.map.now candidate.place in
    let firsts = list_of _ _ _ _ c.args.layer on.lists (omega (arith, c.requires.within)) in
    let seconds = list_of _ _ _ _ (c.args.layer + 1) on.lists c.requires.within in
    record {
      departures = rw (c.early-early_firsts.ensures.list, c.layer-firsts.ensures.layer)
          (All-take IsFrom 3 _ (c.places.ensures.departures _ _ c.args.map.now c.args.layer _
          (omega (arith, c.requires.within, on.lists.all)) firsts.0));
      places = rw (c.early-early_seconds.ensures.list, c.layer-seconds.ensures.layer)
          (All-take IsTo 3 _ (c.places.ensures.places _ _ c.args.map.now (c.args.layer + 1) _
          seconds.0));
      firsts_at_most = c.early-early_firsts.ensures.at_most;
      seconds_at_most = c.early-early_seconds.ensures.at_most;
    }

pub returns : goal.returns
returns c = record {
  next = c.next_of-next.result;
  leads_on = rw (← c.reference.ensures) c.next_of-next.ensures;
  class_is = rw (← c.tolerances-tolerances.ensures) c.class_limit.ensures;
  from_is = rw (← c.tolerances-tolerances.ensures) c.least_admitted.ensures;
  to_is = rw (← c.tolerances-tolerances.ensures) c.greatest_admitted.ensures.is;
  admits_is = rw (← c.lengths.ensures) c.admitted-admits.ensures;
  of_is = rw (← c.layer-firsts.ensures.layer, ← c.layer-seconds.ensures.layer) c.pair_count.ensures;
  admitting = c.in_ok-pairs.ensures.admitting;
  pairs = λ none. rw (
    c.early-early_firsts.ensures.list,
    c.early-early_seconds.ensures.list,
    c.layer-firsts.ensures.layer,
    c.layer-seconds.ensures.layer,
    c.tolerances-tolerances.ensures,
  ) at (c.in_ok-pairs.ensures.none none);
}
