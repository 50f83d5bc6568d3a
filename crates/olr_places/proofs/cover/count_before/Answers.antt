use Rattle.std.proofs.Common.{ltb, ltb-true, ltb-false, rules}
use Rattle.olr_places.proofs.Common.{Piece, IsPartitionPoint-from_clause, IsPartitionedBy-ltb}
use Rattle.olr_places.proofs.cover.count_before.Goals as goal

pub returns-clause-point : goal.returns-clause-point
returns-clause-point c =
    let point = IsPartitionPoint-from_clause (λ (piece : Piece). ltb piece.line c.args.line) _ _
    c.partition_point.ensures.partitioned
    (IsPartitionedBy-ltb (λ (piece : Piece). piece.line) _ c.args.line c.requires)
    (λ a r q k. search rules) in (
      λ k d low high. ltb-true _ _ (point.0 k d low high),
      λ k d low high. ltb-false _ _ (point.1 k d low high),
    )
