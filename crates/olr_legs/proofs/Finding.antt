-- When nothing waits, the walks that a search has found are the first ones.
use Rattle.std.proofs.Common.{◌≡◌, ℕ, zero, suc, ◌+◌, ◌≤◌, List, [], ◌∷◌, arith, refl, inl, inr, subst, sym, ◌∙◌, length}
use Rattle.std.proofs.lemmas.Bool.{cases_lt}
use Rattle.std.proofs.lemmas.List.Elements.{All-head, All-tail}
use Rattle.std.proofs.lemmas.Option.{same_Some}
use Rattle.std.specs.BinaryHeap.{heap_items}
use Rattle.std.specs.Prelude.{All, None, Option, Some}
use Rattle.olr_road.specs.RoadMap.{IsSoundMap, RoadMap}
use Rattle.olr_road.specs.declared.place.Place.{Place}
use Rattle.olr_route.specs.Route.{IsUpTo}
use Rattle.olr_route.specs.Steps.{ReachesStart, rest_of_line}
use Rattle.olr_route.specs.Turn.{IsOpen, IsTurn}
use Rattle.olr_route.specs.Walk.{IsDrivable, LeadTo, length_at, pieces_of, start_of, walk_length}
use Rattle.olr_legs.specs.Avoiding.{HasNoAvoidingWithin, IsAvoiding, IsClearOf, IsFirstAvoiding}
use Rattle.olr_legs.specs.Departing.{IsBestOf, IsDeparting, IsFirstDeparting}
use Rattle.olr_legs.specs.Labels.{AreSettled, HasEnd, HasUpTo, IsClosed, way_in}
use Rattle.olr_legs.specs.Search.{IsReady, from_of, last_piece, piece_to_end}
use Rattle.olr_legs.specs.Way.{IsUpToWay}
use Rattle.olr_legs.specs.declared.labels.Labels.{Labels}
use Rattle.olr_legs.specs.declared.search.Search.{Search}
use Rattle.olr_legs.specs.declared.way.Way.{Way}
use Rattle.olr_legs.proofs.Ids.{ids_up_to}
use Rattle.olr_legs.proofs.Walks.{behind_first, departure_length, first_open, long_before_turn, rest_last, rest_more, walk_of}
use Rattle.olr_legs.proofs.Ways.{way_length, way_over}

module _ (search : Search) (labels : Labels) (ready : IsReady search)
    (sound : IsSoundMap search.map.now) (settled : AreSettled search labels)
    (ends : HasEnd search labels) (none_waits : length (heap_items labels.waiting) ≡ 0) where
  abbrev road : RoadMap
  road = search.map.now

  abbrev class : ℕ
  class = search.reach.now.class

  abbrev from : Place
  from = from_of search

  closed : (line : ℕ) (way : Way) → way_in labels line ≡ Some way
      → IsClosed search labels line way
  closed line way is = elim (settled line way is) [
    | inl waits ↦ absurd (omega arith)
    | inr done ↦ done
  ]

  known_last : (line : ℕ) → LeadTo road class (start_of line) search.to []
      → All (IsClearOf search.shut.now) (pieces_of road (start_of line) search.to [])
      → walk_length road (start_of line) search.to [] ≤ search.bound
      → HasUpTo labels line (walk_length road (start_of line) search.to []) []
  known_last line on clear within =
      let long : search.to.at ≡ walk_length road (start_of line) search.to [] =
      omega (arith, rest_last road (start_of line) search.to) in
      subst (λ l. HasUpTo labels line l []) long
      (subst (λ l. HasUpTo labels l search.to.at []) (sym on.ends) (ends (record {
        drivable = subst
            (λ l. IsDrivable road class (record { line = l; from = 0; to = search.to.at })) on.ends
            (on.drivable 0 (last_piece search) (omega arith));
        clear = subst
            (λ l. IsClearOf search.shut.now (record { line = l; from = 0; to = search.to.at }))
            on.ends (clear 0 (last_piece search) (omega arith));
        within = omega (arith, long);
      })))

  known_more : (line next n far : ℕ) (rest : List ℕ) → ReachesStart road class from n line far
      → IsTurn road line next → IsOpen road class line
      → IsClearOf search.shut.now (piece_to_end road line 0)
      → far + walk_length road (start_of line) search.to (next ∷ rest) ≤ search.bound
      → HasUpTo labels next (walk_length road (start_of next) search.to rest) rest
      → HasUpTo labels line (walk_length road (start_of line) search.to (next ∷ rest)) (next ∷ rest)
  known_more line next n far rest reaches turn opened clear within (way, is, up) =
      let more = rest_more road (start_of line) search.to next rest in
      let before = walk_of road class from n line far reaches in
      let shorter = way_length _ _ _ _ up in
      let here = closed next way is line turn (record {
        opened = opened;
        clear = clear;
        before = before.0;
        is = before.1;
        within = omega (arith, more, before.2, shorter);
      }) in (
        here.0,
        here.1,
        way_over _ (length_at road line) _ _ _ _ _ _ _ here.2 up (omega (arith, more)),
      )

  -- from the start of each line a walk is known that isn't behind any, where the whole walk over it
  -- is within the bound
  known : (rest : List ℕ) (line n far : ℕ) → ReachesStart road class from n line far
      → LeadTo road class (start_of line) search.to rest
      → All (IsClearOf search.shut.now) (pieces_of road (start_of line) search.to rest)
      → far + walk_length road (start_of line) search.to rest ≤ search.bound
      → HasUpTo labels line (walk_length road (start_of line) search.to rest) rest
  known [] line n far reaches on clear within = known_last line on clear (omega arith)
  known (next ∷ rest) line n far reaches on clear within =
      let turn = on.turns.0 in
      let opened = first_open on (long_before_turn road line next sound turn) in
      known_more line next n far rest reaches turn opened
      (All-head (IsClearOf search.shut.now) (piece_to_end road line 0)
      (pieces_of road (start_of next) search.to rest) clear) within
      (known rest next (suc n) (far + length_at road line)
      (line, far, reaches, opened, turn, refl) (behind_first on)
      (All-tail (IsClearOf search.shut.now) (piece_to_end road line 0)
      (pieces_of road (start_of next) search.to rest) clear)
      (omega (arith, rest_more road (start_of line) search.to next rest)))

  module _ (best : Option Way) (is : IsFirstDeparting search labels best) where
    -- no walk within the bound comes before the best one
    best_of : (other : List ℕ) → IsAvoiding road class from search.to search.shut.now other
        → walk_length road from search.to other ≤ search.bound
        → IsBestOf best (walk_length road from search.to other) other
    best_of [] avoiding within = absurd (avoiding.leaves_line refl)
    best_of (next ∷ rest) avoiding within =
        let on = avoiding.is.on in
        let turn = on.turns.0 in
        let more = rest_more road from search.to next rest in
        let first = piece_to_end road from.line from.at in
        let behind = pieces_of road (start_of next) search.to rest in
        let opened = first_open on (departure_length road from ready.held.from_map) in
        let (way, has, up) = known rest next zero (rest_of_line road from) (opened, turn, refl)
        (behind_first on) (All-tail (IsClearOf search.shut.now) first behind avoiding.clear)
        (omega (arith, more)) in
        let shorter = way_length _ _ _ _ up in
        let found = is.first (record {
          opened = opened;
          clear = All-head (IsClearOf search.shut.now) first behind avoiding.clear;
        }) next turn way has (omega (arith, more, shorter)) in (
          found.0,
          found.1,
          way_over _ (rest_of_line road from) _ _ _ _ _ _ _ found.2 up more,
        )

    pub none_within : best ≡ None
        → HasNoAvoidingWithin road class from search.to search.shut.now search.bound
    none_within none other avoiding = elim
        (cases_lt search.bound (walk_length road from search.to other)) [
          | inl past ↦ past
          | inr within ↦ absurd (let found = (best_of other avoiding within).1 in cc)
        ]

    module _ (way : Way) (found : best ≡ Some way) where
      departs : IsDeparting search way
      departs = rw found at is.departs

      avoids : IsAvoiding road class from search.to search.shut.now way.behind.items
      avoids = record {
        is = record { on = departs.leads.on; forwards = λ none. absurd (departs.leaves_line none) };
        leaves_line = departs.leaves_line;
        clear = departs.leads.clear;
      }

      not_before : (other : List ℕ) → IsAvoiding road class from search.to search.shut.now other
          → walk_length road from search.to other ≤ search.bound
          → IsUpToWay way.length way.behind.items (walk_length road from search.to other) other
      not_before other avoiding within = let (first, same, up) = best_of other avoiding within in
          subst (λ (w : Way). IsUpToWay w.length w.behind.items
          (walk_length road from search.to other) other)
          (same_Some first way (sym same ∙ found)) up

      not_longer : (other : List ℕ) → IsAvoiding road class from search.to search.shut.now other
          → walk_length road from search.to way.behind.items ≤ walk_length road from search.to other
      not_longer other avoiding = elim
          (cases_lt search.bound (walk_length road from search.to other)) [
            | inl past ↦ omega (arith, departs.leads.long, departs.leads.within)
            | inr within ↦ let up = way_length _ _ _ _ (not_before other avoiding within) in
                omega (arith, departs.leads.long)
          ]

      as_long : (k l : ℕ) (a b : List ℕ) → l ≡ k → IsUpToWay k a l b → IsUpTo a b
      as_long k l a b same up = grind arith

      pub first_within : IsFirstAvoiding road class from search.to search.shut.now search.bound
          way.behind.items
      first_within = record {
        is = avoids;
        within = omega (arith, departs.leads.long, departs.leads.within);
        least = not_longer;
        first = λ other avoiding same.
            ids_up_to road sound from.line from.line way.behind.items other departs.leads.on.turns
            avoiding.is.on.turns (as_long way.length (walk_length road from search.to other)
            way.behind.items other (same ∙ departs.leads.long)
            (not_before other avoiding (omega (arith, departs.leads.long, departs.leads.within))));
      }

      pub found_length : walk_length road from search.to way.behind.items ≡ way.length
      found_length = departs.leads.long
