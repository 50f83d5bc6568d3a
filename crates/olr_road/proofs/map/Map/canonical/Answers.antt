use Rattle.olr_road.proofs.Common.{canonical_rows, ◌++◌, ℕ, List, get_or, [], ap, ◌∙◌, arith}
use Rattle.olr_road.proofs.CanonicalRows.{row_more}
use Rattle.olr_road.proofs.map.Map.canonical.Goals as goal

pub loop-number-preserved : goal.loop-number-preserved
loop-number-preserved c =
    let rows = canonical_rows c.args.self.now in
    let number = c.loop-number.number in
    c.in_ok-push_canonical_row.ensures
    ∙ ap (λ (l : List ℕ). l ++ get_or rows number []) c.loop-number.invariant
    ∙ row_more rows number (omega arith)
