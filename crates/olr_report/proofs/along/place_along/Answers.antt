use Rattle.olr_report.proofs.Common.{Piece, ◌≡◌, ◌-◌, ◌+◌, Some, ◌∙◌, inl, inr, sym, ap, arith, drop, drop_all, get_or, piece_length, place_at, steps_of}
use Rattle.olr_report.proofs.PlacesOnSteps.{no_place, place_found, place_further, place_past}
use Rattle.olr_report.proofs.along.place_along.Goals as goal

abbrev nothing : Piece
nothing = record { line = 0; from = 0; to = 0 }

pub returns-then-left-length : goal.returns-then-left-length
returns-then-left-length c =
    let pieces = c.args.pieces.now in
    let i = c.loop-piece.piece-index in
    ap Some c.place_in.ensures
    ∙ sym (place_found pieces i c.loop-piece.left nothing c.loop-piece-test.true
    (omega (arith, c.if-length-gt0.true, c.length_of-length.ensures))
    (omega (arith, c.if-left-length.true, c.length_of-length.ensures)))
    ∙ c.loop-piece.invariant

pub loop-piece-preserved : goal.loop-piece-preserved
loop-piece-preserved c =
    let pieces = c.args.pieces.now in
    let i = c.loop-piece.piece-index in
    let left = c.loop-piece.left in
    let inside = c.loop-piece-test.true in
    rw c.length_of-length.ensures (elim c.else-length-gt0.either [
      | inl case ↦ sym (place_further pieces i left nothing inside
          (omega (arith, case.1, c.length_of-length.ensures)))
          ∙ c.loop-piece.invariant
      | inr none ↦
          let empty : piece_length (get_or pieces i nothing) ≡ 0 =
          omega (arith, none, c.length_of-length.ensures) in
          let same : left - piece_length (get_or pieces i nothing) ≡ left = omega (arith, empty) in
          ap (place_at (steps_of (drop (i + 1) pieces))) same
          ∙ sym (place_past pieces i left nothing inside empty) ∙ c.loop-piece.invariant
    ])

pub returns : goal.returns
returns c =
    let left = c.loop-piece.left in
    no_place left
    ∙ sym (ap (λ rest. place_at (steps_of rest) left)
    (drop_all c.loop-piece.piece-index c.args.pieces.now (omega arith)))
    ∙ c.loop-piece.invariant
