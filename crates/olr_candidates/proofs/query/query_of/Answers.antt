use Rattle.olr_candidates.proofs.Common.{refl, arith, slice_get_read}
use Rattle.olr_candidates.proofs.query.query_of.Goals as goal

pub returns-clause-query : goal.returns-clause-query
returns-clause-query c = record {
  first = c.index-points-0.result;
  first_is = slice_get_read _ _ 0 _ refl (omega arith)
      (rw (← c.points-points.ensures) c.index-points-0.is);
  point_is = slice_get_read _ _ _ _ refl c.requires
      (rw (← c.points-points.ensures) c.index-points-index.is);
  plane_is = cc;
  last_is = rw (← c.points-points.ensures);
  tolerances_is = refl;
}
