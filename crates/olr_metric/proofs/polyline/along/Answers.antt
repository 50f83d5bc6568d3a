use Rattle.olr_metric.proofs.Alongs.{is_at, is_along}
use Rattle.olr_metric.proofs.polyline.along.Goals as goal

pub along_segment-requires-clause-apart : goal.along_segment-requires-clause-apart
along_segment-requires-clause-apart c =
    (is_at c.segment_at-segment.ensures.within c.segment_at-segment.ensures.segment
    c.requires.polyline).0

pub along_segment-requires-clause-s : goal.along_segment-requires-clause-s
along_segment-requires-clause-s c = rw c.segment_at-segment.ensures.start
    (is_at c.segment_at-segment.ensures.within c.segment_at-segment.ensures.segment
    c.requires.polyline).1

pub returns-clause-along : goal.returns-clause-along
returns-clause-along c = is_along c.segment_at-segment.ensures.within
    c.segment_at-segment.ensures.segment c.segment_at-segment.ensures.start
    c.along_segment.ensures.spot
