use Rattle.olr_candidates.proofs.Common.{AreTooMany, IsListOf, arith, length, refl, rules, ◌≤◌}
use Rattle.olr_candidates.proofs.AllPoints.{all_lists, first_too_many, one_more}
use Rattle.olr_candidates.proofs.OfPoints.{listed, of_point}
use Rattle.olr_candidates.proofs.SeenFrom.{seen_at, seen_count, sees_radius}
use Rattle.olr_candidates.proofs.surroundings.Surroundings.candidates.Goals as goal

pub search_among-requires : goal.search_among-requires
search_among-requires c = sees_radius _ c.args.self.now _ c.query_of-query.ensures.query
    c.requires.radius c.requires.around (seen_at c.args.self.now c.loop-index.index
    c.index.result.now _ c.index.ensures c.deref.ensures.value (omega arith))

pub returns-in_default-clause-fault : goal.returns-in_default-clause-fault
returns-in_default-clause-fault c = (
  c.loop-index.index,
  first_too_many _ _ _ _ _ c.loop-index.invariant
      (of_point _ _ _ _ c.query_of-query.ensures.query
      (λ t o p l. AreTooMany t o p l c.args.on.now.map.now.lines) (c.in_default.ensures)),
  refl,
)

pub loop-index-preserved : goal.loop-index-preserved
loop-index-preserved c =
    let at_most : length c.in-Some.list.items ≤ 64 = search rules in
    rw c.in-Ok.ensures.items (one_more
    (IsListOf c.args.on.now.tolerances c.args.on.now.reference.now c.args.on.now.map.now.lines)
    (λ list. list.items) _ _ _ c.loop-index.invariant
    (listed _ _ _ _ c.query_of-query.ensures.query _ _ c.in-Some.ensures, at_most))

pub returns-clause-lists : goal.returns-clause-lists
returns-clause-lists c = all_lists _ _ _ _ _ c.loop-index.invariant
    (omega (arith, c.requires.around.all, seen_count c.args.self.now))
