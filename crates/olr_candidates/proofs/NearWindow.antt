-- The lines that meet a window around a point are, among others, all lines that lie within the
-- radius.
use Rattle.olr_candidates.proofs.Common.{BoundingBox, coordinates_of, IsInRange, RoadLine, IsSoundLine, Query, ℕ, List, get_or, All, arith, slice_get_within, HoldAllWithin, CoversRadius, IsWindowOf}
use Rattle.olr_candidates.proofs.LineCandidates.{sound_at}
use Rattle.olr_candidates.proofs.WindowAround.{FootBetween, NoShorter, meets_window}

pub covers_radius : FootBetween (λ s. s.x) → FootBetween (λ s. s.y) → NoShorter (λ s. s.x)
    → NoShorter (λ s. s.y)
    → (query : Query) {radius : ℕ} (lines : List RoadLine) {nodes : ℕ} {window : BoundingBox}
    (ranks : List ℕ) → All (IsSoundLine nodes) lines → CoversRadius query radius window
    → IsWindowOf lines window ranks → HoldAllWithin query lines radius ranks
covers_radius between_x between_y shorter_x shorter_y query lines ranks sound covers meeting =
    let here : IsInRange (coordinates_of query.point.at) =
    record { lon = query.point.at.lon_in_range; lat = query.point.at.lat_in_range } in
    record {
      once = meeting.once;
      known = λ k d inside. let meets = meeting.only k d inside in
          slice_get_within lines (get_or ranks k d) meets.0 meets.1;
      each = λ rank projection found within. meeting.each rank (
        found.0,
        found.1,
        meets_window between_x between_y shorter_x shorter_y _ _ _ _ covers here
            (sound_at _ _ sound found.1).inside found.2.nearest (omega arith),
      );
    }
