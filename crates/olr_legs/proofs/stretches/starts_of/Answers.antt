use Rattle.std.proofs.Common.{arith}
use Rattle.std.proofs.lemmas.List.Sums.{sum_by_more}
use Rattle.std.proofs.lemmas.Option.{slice_get_within}
use Rattle.olr_route.specs.Walk.{piece_length}
use Rattle.olr_legs.proofs.Starts.{more_starts}
use Rattle.olr_legs.proofs.stretches.starts_of.Goals as goal

pub loop-piece-preserved : goal.loop-piece-preserved
loop-piece-preserved c =
    let next = sum_by_more piece_length c.args.route.now c.loop-piece.piece-index
    (record { line = 0; from = 0; to = 0 }) c.loop-piece-test.true in
    record {
      so_far = omega (arith, next);
      found = more_starts _ _ _ _ c.loop-piece.start _ _ c.loop-piece.invariant.so_far
          c.loop-piece.invariant.found c.in_ok-push_starts.ensures.kept
          c.in_ok-push_starts.ensures.begins;
    }

pub returns : goal.returns
returns c = λ start is. c.loop-piece.invariant.found start is
    (omega (arith, slice_get_within c.args.route.now is.index is.piece is.piece_is))
