-- A walk misses so many neighbouring steps of a route just where it misses those from one of the
-- starts on: where a piece of the route begins, or at the place where the walk ends.
use Rattle.std.proofs.Common.{◌≡◌, ℕ, suc, ◌+◌, ◌-◌, ◌<◌, ◌≤◌, true, false, List, [], ◌∷◌, ◌++◌, All, length, take, drop, refl, sym, ap, subst, ◌∙◌, inl, inr, arith, length-append}
use Rattle.std.proofs.lemmas.Bool.{cases_Bool, cases_eq, cases_lt, or_cases, or_left, or_right}
use Rattle.std.proofs.lemmas.List.Elements.{All-head, All-tail, All-take, All-weaker}
use Rattle.std.proofs.lemmas.List.{length-drop, length-take, take-append-drop, take-append-le}
use Rattle.std.proofs.Math.Seq.{drop-append_seam}
use Rattle.std.proofs.lemmas.List.Sums.{sum_by-cons}
use Rattle.std.specs.Prelude.{Contains}
use Rattle.olr_places.proofs.CloseLaws.{computed, covered_is, missing_is}
use Rattle.olr_places.specs.Missing.{IsMissingRun, covers, has_step, missing_of}
use Rattle.olr_report.proofs.StepLists.{length-steps_in, stretch}
use Rattle.olr_report.specs.Steps.{Step, steps_in, steps_of}
use Rattle.olr_road.specs.RoadMap.{RoadMap}
use Rattle.olr_road.specs.declared.place.Place.{Place}
use Rattle.olr_route.specs.Route.{IsPieceOn}
use Rattle.olr_route.specs.Walk.{last_line, length_at, piece_length, pieces_from, pieces_of}
use Rattle.olr_route.specs.declared.piece.Piece.{Piece}
use Rattle.olr_legs.specs.Stretches.{AreMissedFrom, IsBeginOn, IsStart, least_missed, stretch_from}
use Rattle.olr_legs.proofs.Steps.{all_before, all_stretch, drop_piece, drop_earlier, first_step, has_from, has_parts, step_at}

-- ---- a stretch is missed

abbrev Missed : List Piece → Step → Type 0
Missed pieces step = covers pieces step ≡ false

-- where it is, so much is missed of the route
pub misses : (pieces route : List Piece) (start : ℕ) → AreMissedFrom pieces route start
    → least_missed ≤ missing_of pieces route
misses pieces route start from =
    let steps = steps_of route in
    let count : ℕ = start + least_missed - start in
    let run : List Step = take count (drop start steps) in
    let is : IsMissingRun (steps_of pieces) steps run = record {
      before = take start steps;
      behind = drop count (drop start steps);
      neighbours = sym (take-append-drop start steps)
          ∙ ap (λ (l : List Step). take start steps ++ l)
          (sym (take-append-drop count (drop start steps)));
      missing = All-weaker (Missed pieces) (λ (step : Step). ¬ (Contains (steps_of pieces) step))
          (missing_is pieces) run from.missed;
    } in
    omega (
      arith,
      (computed pieces route).at_most run is,
      length-take count (drop start steps),
      length-drop start steps,
      from.within,
    )

-- ---- the steps of a walk

-- A walk that has a step of a line has also those behind it, unless its last place is between.
goes_on : (road : RoadMap) (line from : ℕ) (behind : List ℕ) (to on j k : ℕ)
    → covers (pieces_from road line from behind to) (step_at on j) ≡ true → j ≤ k
    → k < length_at road on → (last_line line behind ≡ on → j < to → to ≤ k → ⊥)
    → covers (pieces_from road line from behind to) (step_at on k) ≡ true
goes_on road line from [] to on j k is up inside on_way =
    let piece : Piece = record { line = line; from = from; to = to } in
    elim (or_cases (has_step (step_at on j) piece) false is) [
      | inl here ↦
          let parts = has_parts (step_at on j) piece here in
          or_left (has_step (step_at on k) piece) false
          (has_from (step_at on k) piece parts.0 (omega arith)
          (elim (cases_lt k to) [
            | inl before ↦ before
            | inr past ↦ absurd (on_way parts.0 parts.2 past)
          ]))
      | inr none ↦ absurd (cc)
    ]
goes_on road line from (next ∷ behind) to on j k is up inside on_way =
    let piece : Piece = record { line = line; from = from; to = length_at road line } in
    let rest : List Piece = pieces_from road next 0 behind to in
    elim (or_cases (has_step (step_at on j) piece) (covers rest (step_at on j)) is) [
      | inl here ↦
          let parts = has_parts (step_at on j) piece here in
          let long : length_at road line ≡ length_at road on =
          ap (λ (l : ℕ). length_at road l) parts.0 in
          or_left (has_step (step_at on k) piece) (covers rest (step_at on k))
          (has_from (step_at on k) piece parts.0 (omega arith) (omega arith))
      | inr later ↦ or_right (has_step (step_at on k) piece) (covers rest (step_at on k))
          (goes_on road next 0 behind to on j k later up inside on_way)
    ]

-- ---- where a run begins

-- a piece of the map is no longer than its line
up_to_end : (road : RoadMap) (piece : Piece) → IsPieceOn road piece
    → piece.to ≤ length_at road piece.line
up_to_end road piece on = rw on.at_rank on.up_to_end

module _ (road : RoadMap) (from to : Place) (behind : List ℕ)
    (ends : last_line from.line behind ≡ to.line) where
  abbrev walk : List Piece
  walk = pieces_of road from to behind

  -- A missed step of a line: those before it are missed too, back to a position from which the walk
  -- doesn't end on the way.
  back : (on at k : ℕ) → k < length_at road on → covers walk (step_at on k) ≡ false
      → ((j : ℕ) → at ≤ j → on ≡ to.line → j < to.at → to.at ≤ k → ⊥) → at ≤ k
      → All (Missed walk) (stretch on at (k - at))
  back on at k inside is_missed on_way low = all_stretch (Missed walk) on at (k - at)
      (λ j above below. elim (cases_Bool (covers walk (step_at on j))) [
        | inl is ↦
            let yes : covers walk (step_at on k) ≡ true =
            goes_on road from.line from.at behind to.at on j k is (omega arith) inside
            (λ same. on_way j above (sym same ∙ ends)) in
            absurd (cc)
        | inr is ↦ is
      ])

  not_covered : (step : Step) → ¬ (Contains (steps_of walk) step) → Missed walk step
  not_covered step none = elim (cases_Bool (covers walk step)) [
    | inl is ↦ absurd (none (covered_is walk step is))
    | inr is ↦ is
  ]

  -- a start from which so many steps are missed
  record Missing (route : List Piece) : Type 0 where
    start : ℕ
    is_start : IsStart to route start
    within : start + least_missed ≤ length (steps_of route)
    missed : All (Missed walk) (take least_missed (drop start (steps_of route)))

  -- the steps from a position of the first piece on, if those from a later one on are missed
  here : (piece : Piece) (rest : List Piece) (at k : ℕ) → IsPieceOn road piece
      → IsBeginOn to piece at → piece.from ≤ at → at ≤ k → k < piece.to
      → ((j : ℕ) → at ≤ j → piece.line ≡ to.line → j < to.at → to.at ≤ k → ⊥)
      → (k - piece.from) + least_missed ≤ length (steps_of (piece ∷ rest))
      → All (Missed walk) (take least_missed (drop (k - piece.from) (steps_of (piece ∷ rest))))
      → Missing (piece ∷ rest)
  here piece rest at k on begins low up inside on_way within missed = record {
    start = at - piece.from;
    is_start = record {
      index = 0;
      piece = piece;
      at = at;
      piece_is = refl;
      begins = begins;
      start_is = omega arith;
    };
    within = omega arith;
    missed = subst (λ (steps : List Step). All (Missed walk) (take least_missed steps))
        (sym (drop_earlier piece rest at k low up (omega arith)))
        (all_before (Missed walk) least_missed (stretch piece.line at (k - at))
        (drop (k - piece.from) (steps_of (piece ∷ rest)))
        (back piece.line at k (omega (arith, inside, up_to_end road piece on))
        (first_step (Missed walk) piece rest k 199 (omega arith) inside missed) on_way up) missed);
  }

  -- a start in the pieces behind the first one
  later : (piece : Piece) (rest : List Piece) → Missing rest → Missing (piece ∷ rest)
  later piece rest found =
      let is = found.is_start in record {
        start = piece_length piece + found.start;
        is_start = record {
          index = suc is.index;
          piece = is.piece;
          at = is.at;
          piece_is = is.piece_is;
          begins = is.begins;
          start_is = omega (
            arith,
            is.start_is,
            sum_by-cons piece_length piece (take is.index rest),
          );
        };
        within = omega (
          arith,
          found.within,
          length-append (steps_in piece) (steps_of rest),
          length-steps_in piece,
        );
        missed = subst (λ (steps : List Step). All (Missed walk) (take least_missed steps))
            (sym (drop_piece piece rest found.start)) found.missed;
      }

  -- Where steps are missed from a position of the first piece on, they are from its begin on, or
  -- from the place where the walk ends.
  in_first : (piece : Piece) (rest : List Piece) (k : ℕ) → IsPieceOn road piece → piece.from ≤ k
      → k < piece.to → (k - piece.from) + least_missed ≤ length (steps_of (piece ∷ rest))
      → All (Missed walk) (take least_missed (drop (k - piece.from) (steps_of (piece ∷ rest))))
      → Missing (piece ∷ rest)
  in_first piece rest k on low inside within missed =
      let at_begin = λ (on_way : (j : ℕ) → piece.from ≤ j → piece.line ≡ to.line → j < to.at
      → to.at ≤ k → ⊥). here piece rest piece.from k on (inl refl) (omega arith) low inside on_way
      within missed in
      elim (cases_eq piece.line to.line) [
        | inr other ↦ at_begin (λ j above same before stops. other same)
        | inl same ↦ elim (cases_lt k to.at) [
          | inl ahead ↦ at_begin (λ j above same before stops. omega arith)
          | inr stops ↦ elim (cases_lt piece.from to.at) [
            | inr outside ↦ at_begin (λ j above same before stops. omega arith)
            | inl on_it ↦ here piece rest to.at k on (inr (same, refl, on_it, omega arith))
                (omega arith) stops inside (λ j above same before stops. omega arith) within missed
          ]
        ]
      ]

  find : (route : List Piece) (n : ℕ) → All (IsPieceOn road) route
      → n + least_missed ≤ length (steps_of route)
      → All (Missed walk) (take least_missed (drop n (steps_of route))) → Missing route
  find [] n on within missed = absurd (omega arith)
  find (piece ∷ rest) n on within missed = elim (cases_lt n (piece_length piece)) [
    | inl less ↦
        let same : n ≡ piece.from + n - piece.from = omega arith in
        in_first piece rest (piece.from + n) (All-head (IsPieceOn road) piece rest on) (omega arith)
        (omega arith) (omega arith)
        (subst (λ (m : ℕ). All (Missed walk)
        (take least_missed (drop m (steps_of (piece ∷ rest))))) same missed)
    | inr more ↦
        let m : ℕ = n - piece_length piece in
        let same : n ≡ piece_length piece + m = omega arith in
        later piece rest (find rest m (All-tail (IsPieceOn road) piece rest on)
        (omega (arith, length-append (steps_in piece) (steps_of rest), length-steps_in piece))
        (subst (λ (steps : List Step). All (Missed walk) (take least_missed steps))
        (ap (λ (k : ℕ). drop k (steps_of (piece ∷ rest))) same ∙ drop_piece piece rest m) missed))
  ]

  -- of a run that is missed the first steps are
  missed_first : (steps before run behind : List Step) → steps ≡ before ++ (run ++ behind)
      → least_missed ≤ length run → All (Missed walk) run
      → All (Missed walk) (take least_missed (drop (length before) steps))
  missed_first steps before run behind split long none =
      let rest : drop (length before) steps ≡ run ++ behind =
      ap (λ (l : List Step). drop (length before) l) split
      ∙ drop-append_seam before (run ++ behind) in
      subst (λ (l : List Step). All (Missed walk) (take least_missed l)) (sym rest)
      (subst (All (Missed walk)) (sym (take-append-le least_missed run behind long))
      (All-take (Missed walk) least_missed run none))

  as_stretch : (route : List Piece) (start : ℕ)
      → All (Missed walk) (take least_missed (drop start (steps_of route)))
      → All (Missed walk) (stretch_from route start)
  as_stretch route start missed =
      let count : least_missed ≡ start + least_missed - start = omega arith in
      subst (λ (n : ℕ). All (Missed walk) (take n (drop start (steps_of route)))) count missed

  -- If a walk misses so much of a route, it misses the stretch from one of the starts on.
  pub start_of_missed : (route : List Piece) → All (IsPieceOn road) route
      → least_missed ≤ missing_of walk route
      → (start : ℕ) × IsStart to route start × AreMissedFrom walk route start
  start_of_missed route on much =
      let steps = steps_of route in
      let is = computed walk route in
      let run = is.longest in
      let before = is.is_run.before in
      let behind = is.is_run.behind in
      let long : least_missed ≤ length run = omega (arith, is.length_is) in
      let none : All (Missed walk) (take least_missed (drop (length before) steps)) =
      missed_first steps before run behind is.is_run.neighbours long
      (All-weaker (λ (step : Step). ¬ (Contains (steps_of walk) step)) (Missed walk) not_covered run
      is.is_run.missing) in
      let found = find route (length before) on (omega (
        arith,
        ap (λ (l : List Step). length l) is.is_run.neighbours,
        length-append before (run ++ behind),
        length-append run behind,
        long,
      )) none in (
        found.start,
        found.is_start,
        record { within = found.within; missed = as_stretch route found.start found.missed },
      )
