use Rattle.std.proofs.Common.{sym, ◌∙◌}
use Rattle.olr_places.proofs.Covering.{behind_among, first_among}
use Rattle.olr_places.proofs.missing.pieces_behind.Goals as goal

pub returns-then-eq : goal.returns-then-eq
returns-then-eq c = first_among _ _ _ _ c.in_ok-first.ensures.cases.0
    (sym c.if-eq.true ∙ c.eq.ensures)

pub returns-then-eq-2 : goal.returns-then-eq-2
returns-then-eq-2 c =
    let (is, behind) = first_among _ _ _ _
    c.in_ok-second.ensures.cases.0 (sym c.if-eq-2.true ∙ c.eq-2.ensures) in
    let among = behind_among _ _ _ c.in_ok-first.ensures.cases.0 in
    (among c.args.piece.now is, λ other there. among other (behind _ there))
