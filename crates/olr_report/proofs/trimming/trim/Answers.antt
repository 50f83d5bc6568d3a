use Rattle.olr_report.proofs.Common.{Piece, piece_length, steps_of, ◌≡◌, ◌+◌, ◌-◌, drop, get_or, refl, arith, slice_range}
use Rattle.olr_report.proofs.Appending.{no_pieces}
use Rattle.olr_report.proofs.Parts.{clipped_within, part_all, part_more, part_none}
use Rattle.olr_report.proofs.trimming.trim.Goals as goal

pub loop-piece-init : goal.loop-piece-init
loop-piece-init c = part_none (slice_range (steps_of c.args.pieces.now) c.args.start c.args.end)
    c.in_ok-part.part.items c.args.pieces.now c.args.start (c.args.end - c.args.start)
    (no_pieces c.in_ok-part.part.items c.in_ok-part.ensures.items) refl

pub append-requires-clause-route : goal.append-requires-clause-route
append-requires-clause-route c = record { joined = c.loop-piece.invariant.joined; steps_are = refl }

pub loop-piece-preserved : goal.loop-piece-preserved
loop-piece-preserved c =
    let d : Piece = record { line = 0; from = 0; to = 0 } in
    let sought = slice_range (steps_of c.args.pieces.now) c.args.start c.args.end in
    let i = c.loop-piece.piece-index in
    let rest = drop (i + 1) c.args.pieces.now in
    let skipped : c.saturating_sub-skip.result
    ≡ c.loop-piece.skip - piece_length (get_or c.args.pieces.now i d) = omega arith in
    rw skipped (rw c.length_of-left.ensures
    (part_more sought c.loop-piece.part.items c.append.new.route.items c.args.pieces.now
    c.clip-clipped.result d i c.loop-piece.skip c.loop-piece.left c.loop-piece-test.true
    c.loop-piece.invariant c.clip-clipped.ensures.steps c.in_ok-append.ensures))

pub overflow_sub-left-in-loop-piece : goal.overflow_sub-left-in-loop-piece
overflow_sub-left-in-loop-piece c =
    let d : Piece = record { line = 0; from = 0; to = 0 } in
    omega (
      arith,
      c.length_of-left.ensures,
      clipped_within (get_or c.args.pieces.now c.loop-piece.piece-index d) c.clip-clipped.result
          c.loop-piece.skip c.loop-piece.left c.clip-clipped.ensures.steps,
    )

pub returns : goal.returns
returns c = part_all (slice_range (steps_of c.args.pieces.now) c.args.start c.args.end)
    c.loop-piece.part.items c.args.pieces.now c.loop-piece.piece-index
    c.loop-piece.skip c.loop-piece.left c.loop-piece-test.false c.loop-piece.invariant
