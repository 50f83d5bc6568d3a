use Rattle.std.proofs.Common.{refl, sym}
use Rattle.std.proofs.lemmas.Option.{slice_get_read}
use Rattle.olr_binary.specs.Reference.{points_of}
use Rattle.olr_detail.proofs.Candidates.{detail_at, penalty_is_sum, told}
use Rattle.olr_detail.proofs.candidate_detail.detail_of_candidate.Goals as goal

pub parts_of-requires-clause-penalty : goal.parts_of-requires-clause-penalty
parts_of-requires-clause-penalty c =
    let point_is = slice_get_read (points_of c.args.on.now.reference.now) _ c.args.index
    c.index-points-index.result refl c.requires.index
    (rw c.points-points.ensures at c.index-points-index.is) in
    penalty_is_sum _ _ _ c.args.index c.near_candidates.ensures.fails_none c.args.candidate.now
    c.near_line-near.result c.index-points-index.result c.line-line.result c.near_line-near.ensures
    c.requires.candidate point_is c.line-line.ensures.line

pub returns-clause-detail : goal.returns-clause-detail
returns-clause-detail c =
    let point_is = slice_get_read (points_of c.args.on.now.reference.now) _ c.args.index
    c.index-points-index.result refl c.requires.index
    (rw c.points-points.ensures at c.index-points-index.is) in
    detail_at _ _ _ c.args.index c.args.candidate.now c.near_line-near.result
    c.index-points-index.result c.line-line.result _ c.near_line-near.ensures point_is
    c.line-line.ensures.line
    (told c.args.on.now.tolerances c.index-points-index.result _ c.line-line.result
    c.near_line-near.result c.args.candidate.now c.parts_of.result c.difference.result
    c.abs_diff.result c.end_of.result c.parts_of.ensures c.difference.ensures.difference
    c.abs_diff.ensures (rw c.points-points.ensures at c.end_of.ensures))

pub returns-clause-sum : goal.returns-clause-sum
returns-clause-sum c =
    let point_is = slice_get_read (points_of c.args.on.now.reference.now) _ c.args.index
    c.index-points-index.result refl c.requires.index
    (rw c.points-points.ensures at c.index-points-index.is) in
    rw c.parts_of.ensures (sym (penalty_is_sum _ _ _ c.args.index
    c.near_candidates.ensures.fails_none c.args.candidate.now c.near_line-near.result
    c.index-points-index.result c.line-line.result c.near_line-near.ensures c.requires.candidate
    point_is c.line-line.ensures.line))
