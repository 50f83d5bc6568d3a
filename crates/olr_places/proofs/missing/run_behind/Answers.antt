use Rattle.olr_places.proofs.Common.{stretch, Step, covers, ◌-◌, ◌++◌, ℕ, Bool, arith, ap, ◌∙◌, sym}
use Rattle.olr_places.proofs.Runs.{Within, next_stretch, too_long}
use Rattle.olr_places.proofs.missing.run_behind.Goals as goal

pub returns-then-run-from : goal.returns-then-run-from
returns-then-run-from c = λ rest.
    let covered : Step → Bool = covers c.args.cover.now.pieces.items in
    let end = c.stretch-stretch.result.end in
    let to = c.args.piece.now.to in
    let line = c.args.piece.now.line in
    c.loop-at.invariant.1 rest
    ∙ next_stretch covered c.args.most c.loop-at.run line c.loop-at.at end to rest
    c.stretch-stretch.result.is_covered c.loop-at.invariant.0
    c.stretch-stretch.ensures.forwards.0 c.stretch-stretch.ensures.forwards.1
    c.stretch-stretch.ensures.alike
    ∙ ap (λ (run : ℕ). Within covered c.args.most run (stretch line end (to - end) ++ rest))
    (sym c.run_after-run.ensures)
    ∙ too_long covered c.args.most c.run_after-run.result (stretch line end (to - end) ++ rest)
    (omega arith)
