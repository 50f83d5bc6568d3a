use Rattle.olr_places.proofs.Common.{covers, ◌-◌, arith, true}
use Rattle.olr_places.proofs.Covering.{piece_covered}
use Rattle.olr_places.proofs.Runs.{next_alike}
use Rattle.olr_places.proofs.missing.run_past.Goals as goal

pub returns-in-Some : goal.returns-in-Some
returns-in-Some c =
    let piece = c.args.piece.now in (
      omega arith,
      λ other inside. c.requires.covered other (c.in-Some.ensures.1 other inside),
      λ rest. next_alike (covers c.args.cover.now.pieces.items) c.args.most c.args.before piece.line
          piece.from (piece.to - piece.from) rest true c.requires.at_most (omega arith)
          (piece_covered c.args.cover.now.pieces.items c.args.ahead.now piece c.requires.covered
          c.in-Some.ensures.0 (omega arith)),
    )
