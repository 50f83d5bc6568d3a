use Rattle.olr_candidates.proofs.Common.{coordinates_of, head_of, ◌≡◌}
use Rattle.olr_candidates.proofs.LineCandidates.{head_at, rejected, sound_at}
use Rattle.olr_candidates.proofs.Projections.{sector_at_most}
use Rattle.olr_candidates.proofs.line_candidate.candidate_from.Goals as goal

pub candidate_by-requires-clause-class : goal.candidate_by-requires-clause-class
candidate_by-requires-clause-class c =
    let at = c.requires in
    let sound = sound_at _ _ c.line-line.ensures.sound.lines.each at.1 in
    rw (head_at c.args.map.now.lines c.args.rank at.0 c.line-line.result at.1
    c.line-line.ensures.line) sound.class

pub returns-in_default : goal.returns-in_default
returns-in_default c =
    let at = c.requires in
    let query = c.args.query.now in
    let head : c.line-line.result ≡ head_of at.0 =
    head_at c.args.map.now.lines c.args.rank at.0 c.line-line.result at.1
    c.line-line.ensures.line in
    rejected c.one_projection.ensures query.tolerances (coordinates_of query.plane) query.point
    query.is_last c.args.map.now.lines c.args.rank c.in_default.field-0 (
      at.0,
      at.1,
      record {
        projection = c.args.projection.now;
        is_projection = at.2;
        failed = rw (← head) c.in_default.ensures;
      },
    )

pub candidate_by-requires-clause-sector : goal.candidate_by-requires-clause-sector
candidate_by-requires-clause-sector c = sector_at_most c.args.projection.now.sector
    c.requires.2.bearing
