use Rattle.olr_candidates.proofs.Common.{coordinates_of, head_of, polyline_of, ◌≡◌, ap}
use Rattle.olr_candidates.proofs.LineCandidates.{line_at, head_at}
use Rattle.olr_candidates.proofs.line_projection.projection_at.Goals as goal

pub returns-clause-projection : goal.returns-clause-projection
returns-clause-projection c =
    let at = line_at _ _ c.requires in
    let head : c.line-line.result ≡ head_of at.0 =
    head_at c.args.map.now.lines c.args.rank _ _ at.1 c.line-line.ensures.line in
    let spots : c.deref.result.now ≡ polyline_of (coordinates_of c.args.query.now.plane) at.0 =
    cc (c.polyline_of_line-polyline.ensures.spots at.0 at.1) in (
      at.0,
      at.1,
      rw (← spots, ← c.to_plane-p.ensures.spot, ← ap (λ l. l.length) head)
          c.project.ensures.projection,
    )
