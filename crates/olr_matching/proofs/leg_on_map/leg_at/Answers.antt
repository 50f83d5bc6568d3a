use Rattle.arrayvec.specs.ArrayVec.{ArrayVec}
use Rattle.olr_matching.proofs.Common.{Candidate, lists_of, points_of, ◌≡◌, ◌+◌, ◌<◌, List, length, refl, arith, length-map}
use Rattle.olr_matching.proofs.Points.{leads_on, list_of}
use Rattle.olr_matching.proofs.leg_on_map.leg_at.Goals as goal

count_of : (lists : List (ArrayVec Candidate)) → length (lists_of lists) ≡ length lists
count_of lists = length-map lists (λ list. list.items)

pub next_of-requires : goal.next_of-requires
next_of-requires c = leads_on _ _ c.requires.reference
    (omega (arith, count_of c.args.candidates.now))

pub returns : goal.returns
returns c =
    let road = c.args.map.now in
    let lists : List (List Candidate) = lists_of c.args.candidates.now in
    let count = count_of c.args.candidates.now in
    let first = list_of c.args.tolerances.now c.args.reference.now road.lines lists c.args.layer
    c.requires.lists (omega (arith, count, c.requires.within)) in
    let second = list_of c.args.tolerances.now c.args.reference.now road.lines lists
    (c.args.layer + 1) c.requires.lists (omega (arith, count, c.requires.within)) in
    let not_last : c.args.layer + 1 < length (points_of c.args.reference.now) =
    omega (arith, count, c.requires.lists.all, c.requires.within) in
    record {
      ends = record {
        departures = rw c.list_at.ensures
            (c.places.ensures.departures c.args.tolerances.now c.args.reference.now road
            c.args.layer _ not_last first.0);
        places = rw c.list_at-2.ensures
            (c.places.ensures.places c.args.tolerances.now c.args.reference.now road
            (c.args.layer + 1) _ second.0);
      };
      map_is = refl;
      tolerances_are = refl;
      leads_on = c.next_of.ensures;
      firsts_are = c.list_at.ensures;
      seconds_are = c.list_at-2.ensures;
    }
