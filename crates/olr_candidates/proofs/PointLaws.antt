-- The laws on a point, of a point of a reference; the order by ids.
use Rattle.std.proofs.lemmas.List.Kept.{AllPairs-from_increasing}
use borrow.Author.Tests.{eqb-true}
use Rattle.olr_candidates.proofs.Common.{coordinates_of, points_of, RoadLine, AreCandidates, ◌≡◌, ℕ, zero, suc, ◌+◌, ◌<◌, false, List, [], ◌∷◌, length, get_or, Some, inl, inr, arith, slice_get, ◌==◌, IsStrictlyIncreasing, false_from_ne_true, length-map, none-some, same_Some, slice_get_within, line_ids, OneList, NoListAndTooMany, OneListOfPoint, NoListOfPointAndTooMany, HoldsOfEach, IsOfLines, LiesOnLine, LiesUpToEnd, ArePlaces, AreDepartures, AreInOrderOfIds, RejectedAreNone}
use Rattle.olr_candidates.proofs.LineCandidates.{OneProjection, line_at, rejected}

-- ---- laws on a point, of a point of a reference

pub one_list : OneList → OneListOfPoint
one_list law tolerances reference lines index a b is other =
    let first : other.first ≡ is.first = cc in
    let point : other.point ≡ is.point = cc in
    law _ _ _ _ _ a b is.just (rw (← first, ← point) other.just)

pub not_both : NoListAndTooMany → NoListOfPointAndTooMany
not_both law tolerances reference lines index list are many =
    let first : many.first ≡ are.0.first = cc in
    let point : many.point ≡ are.0.point = cc in
    law _ _ _ _ _ list are.0.just are.1 (rw (← first, ← point) many.just)

pub are_places : HoldsOfEach IsOfLines → HoldsOfEach LiesUpToEnd → ArePlaces
are_places of_lines up_to_end tolerances reference road index candidates are k d within =
    let at = line_at _ (get_or candidates k d).place.line
    (of_lines _ _ _ _ _ _ are.just k d within) in
    record {
      line = at.0;
      at_rank = at.1;
      up_to_end = up_to_end _ _ _ _ _ _ are.just k d within at.0 at.1;
    }

pub are_departures : HoldsOfEach IsOfLines → HoldsOfEach LiesOnLine → AreDepartures
are_departures of_lines on_line tolerances reference road index candidates before are k d within =
    let not_last : (index + 1 == length (points_of reference)) ≡ false =
    false_from_ne_true _ (λ same. omega (
      arith,
      eqb-true (index + 1) (length (points_of reference)) same,
    )) in
    let just : AreCandidates tolerances (coordinates_of are.first.at) are.point false road.lines
    candidates = rw (← not_last) are.just in
    let at = line_at _ (get_or candidates k d).place.line (of_lines _ _ _ _ _ _ just k d within) in
    record {
      line = at.0;
      at_rank = at.1;
      before_end = on_line _ _ _ _ _ _ just k d within at.0 at.1;
    }

-- a line that fails a condition is no candidate
pub rejected_of_point : OneProjection → RejectedAreNone
rejected_of_point one tolerances reference lines index rank rejection candidate fails is =
    let first : is.first ≡ fails.first = cc in
    let point : is.point ≡ fails.point = cc in
    rejected one tolerances (coordinates_of fails.first.at) fails.point
    (index + 1 == length (points_of reference)) lines rank rejection fails.just candidate
    (rw (← first, ← point) is.just)

-- ---- the order by ids

-- the id at a rank
id_at : (lines : List RoadLine) (rank : ℕ) (line : RoadLine) → slice_get lines rank ≡ Some line
    → get_or (line_ids lines) rank 0 ≡ line.id
id_at [] rank line at = absurd (none-some line at)
id_at (first ∷ rest) zero line at = cc (same_Some first line at)
id_at (first ∷ rest) (suc rank) line at = id_at rest rank line at

-- the line of a lesser rank has a lesser id
pub lesser_id : (lines : List RoadLine) → IsStrictlyIncreasing (line_ids lines)
    → (i j : ℕ) (first second : RoadLine) → i < j → slice_get lines i ≡ Some first
    → slice_get lines j ≡ Some second → first.id < second.id
lesser_id lines rise i j first second less at_first at_second =
    let below = AllPairs-from_increasing _ rise i j 0 less
    (omega (
      arith,
      slice_get_within lines j second at_second,
      length-map lines (λ line. line.id),
    )) in
    omega (arith, id_at _ i _ at_first, id_at _ j _ at_second)

pub in_order : AreInOrderOfIds
in_order tolerances reference road index candidates sound are i j d less inside first second
    at_first at_second = elim (are.just.rise i j d less inside) [
      | inl penalty ↦ inl penalty
      | inr line ↦ inr (
        line.0,
        lesser_id road.lines sound.lines.rise (get_or candidates i d).place.line
            (get_or candidates j d).place.line first second line.1 at_first at_second,
      )
    ]
