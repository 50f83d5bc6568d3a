use Rattle.std.proofs.Common.{arith, sym}
use Rattle.std.proofs.lemmas.List.{append-nil}
use Rattle.std.proofs.lemmas.Option.{slice_get_past}
use Rattle.olr_shape.proofs.Whole.{appended}
use Rattle.olr_shape.proofs.shape.push_piece.Goals as goal

pub returns-then-piece-count : goal.returns-then-piece-count
returns-then-piece-count c =
    let none = slice_get_past c.args.map.now.lines c.args.piece.line (omega arith) in
    rw none (sym (append-nil _))

pub returns-then-piece-line : goal.returns-then-piece-line
returns-then-piece-line c = appended c.laws_of_the_plane.ensures c.args.map.now
    c.args.piece c.line-line.result c.points.result.now _ _ c.points.ensures.sound
    (omega arith) c.if-piece-eq0.true c.if-piece-line.true c.line-line.ensures.line
    c.points.ensures.points c.in_ok-extend_from_slice.ensures.items
