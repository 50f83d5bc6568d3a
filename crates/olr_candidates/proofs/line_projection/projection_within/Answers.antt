use Rattle.olr_candidates.proofs.Common.{coordinates_of, spot_of, IsNearest, Near, head_of, polyline_of, ◌≡◌, ap, arith}
use Rattle.olr_candidates.proofs.LineCandidates.{line_at, head_at}
use Rattle.olr_candidates.proofs.line_projection.projection_within.Goals as goal

pub returns-then-near-most-clause-projection : goal.returns-then-near-most-clause-projection
returns-then-near-most-clause-projection c = λ projection is.
    let origin = coordinates_of c.args.query.now.plane in
    let spots : c.deref.result.now ≡ polyline_of origin is.0 =
    cc (c.polyline_of_line-polyline.ensures.spots is.0 is.1) in
    let here : IsNearest (polyline_of origin is.0)
    (spot_of origin (coordinates_of c.args.query.now.point.at)) c.nearest-near.result =
    rw (← spots, ← c.to_plane-p.ensures.spot) c.nearest-near.ensures.nearest in
    let same : is.2.near ≡ c.nearest-near.result =
    c.one_spot.ensures.nearest _ _ is.2.near c.nearest-near.result is.2.nearest here in
    omega (arith, ap (λ (near : Near). near.distance) same)

pub returns-clause-projection : goal.returns-clause-projection
returns-clause-projection c =
    let origin = coordinates_of c.args.query.now.plane in
    let at = line_at _ _ c.requires in
    let head : c.line-line.result ≡ head_of at.0 =
    head_at c.args.map.now.lines c.args.rank _ _ at.1 c.line-line.ensures.line in
    let polyline = c.polyline_of_line-polyline.ensures.spots at.0 at.1 in
    let spots : c.deref.result.now ≡ polyline_of origin at.0 = cc in
    let again : c.deref-2.result.now ≡ polyline_of origin at.0 = cc in
    let here : IsNearest (polyline_of origin at.0)
    (spot_of origin (coordinates_of c.args.query.now.point.at)) c.nearest-near.result =
    rw (← spots, ← c.to_plane-p.ensures.spot) c.nearest-near.ensures.nearest in (
      at.0,
      at.1,
      rw (← again, ← ap (λ l. l.length) head)
          (c.projection_by.ensures.projection
          (spot_of origin (coordinates_of c.args.query.now.point.at)) (rw again here)),
    )
