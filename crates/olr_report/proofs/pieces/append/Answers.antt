use Rattle.olr_report.proofs.Common.{Piece, ◌∷◌, [], ◌++◌, ap, ◌∙◌, arith, rules, Vec}
use Rattle.olr_report.proofs.Appending.{first_piece, longer_at_end, piece_at_end}
use Rattle.olr_report.proofs.pieces.append.Goals.{in_default-via-in-None-1, in_default-via-in-Some+else-touches}
use Rattle.olr_report.proofs.pieces.append.Goals as goal

pub returns : goal.returns
returns c =
    longer_at_end c.args.route.now.items c.in-Some.last.now c.args.piece c.args.route.now.len
    c.args.route.now.ok.0 (omega (arith, c.in-Some.ensures.item))
    c.in-Some.ensures.value c.requires.route.joined (c.touches.ensures.0 c.if-touches.true)
    (omega (arith, c.requires.forwards))

pub returns-2 : goal.returns-2
returns-2 c = elim c.in_default.branch [
  | in_default-via-in-None-1 w ↦
      first_piece c.args.route.now.items c.push.new.self.items c.args.piece (search rules)
      (c.in_ok-push.ensures.items ∙ ap (λ (r : Vec Piece). r.items ++ c.args.piece ∷ []) w.route-is)
      (omega (arith, c.requires.forwards))
  | in_default-via-in-Some+else-touches w ↦
      piece_at_end c.args.route.now.items c.push.new.self.items w.in-Some.last.now c.args.piece
      c.args.route.now.len c.args.route.now.ok.0
      (omega (arith, w.in-Some.ensures.item)) w.in-Some.ensures.value
      (c.in_ok-push.ensures.items ∙ ap (λ (r : Vec Piece). r.items ++ c.args.piece ∷ []) w.route-is)
      c.requires.route.joined (λ touch. absurd (cc (w.touches.ensures.1 touch, w.if-touches.false)))
      (omega (arith, c.requires.forwards))
]
