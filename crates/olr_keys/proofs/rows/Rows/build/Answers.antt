use Rattle.olr_keys.proofs.Common.{ℕ, ◌-◌, ◌<◌, List, [], length, map, slice_index_or, ◌∙◌, ap, subst, arith, Vec, AreRowsOf, rows_of}
use Rattle.olr_keys.proofs.Layers.{last_rows}
use Rattle.olr_keys.proofs.rows.Rows.build.Goals as goal

pub totals-requires-clause-first : goal.totals-requires-clause-first
totals-requires-clause-first c =
    let p = c.args.table.now in
    let shown = c.last.ensures ∙ ap
    (λ (marks : List (Vec (Vec ℕ))). slice_index_or
    (map (λ (rows : Vec (Vec ℕ)). rows.items) marks) (length marks - 1) [])
    c.deref.ensures.value in
    let some : 0 < length p.candidates = omega arith in
    subst (λ (n : ℕ). AreRowsOf p n (rows_of c.last.result.now)) {x =
    length p.candidates - 1 - (length p.candidates - 1)} (omega arith)
    (last_rows _ c.in_ok-marks.ensures some shown)
