use Rattle.olr_candidates.proofs.LineCandidates.{sound_at, head_at}
use Rattle.olr_candidates.proofs.line_candidate.candidate_at.Goals as goal

pub candidate_by-requires-clause-class : goal.candidate_by-requires-clause-class
candidate_by-requires-clause-class c =
    let at = c.projection_at-projection.ensures.projection in
    let sound = sound_at _ _ c.line-line.ensures.sound.lines.each at.1 in
    rw (head_at c.args.map.now.lines c.args.rank at.0 c.line-line.result at.1
    c.line-line.ensures.line) sound.class
