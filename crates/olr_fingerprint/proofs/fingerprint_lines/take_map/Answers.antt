use Rattle.std.proofs.Common.{[], ◌++◌, get_or, ap, ◌∙◌, arith}
use Rattle.olr_road.specs.Canonical.{canonical_rows}
use Rattle.olr_fingerprint.proofs.DigestRows.{extended_more}
use Rattle.olr_fingerprint.proofs.fingerprint_lines.take_map.Goals as goal

pub loop-number-preserved : goal.loop-number-preserved
loop-number-preserved c =
    let rows = canonical_rows c.args.map.now in
    let number = c.loop-number.number in
    let row = c.as_bytes.ensures.value ∙ c.in_ok-push_canonical_row.ensures
    ∙ ap (λ l. l ++ get_or rows number []) c.clear.ensures.bytes in
    extended_more _ _ _ rows number
    (omega (arith, c.loop-number-test.true, c.canonical_rows-number-end.ensures))
    c.loop-number.invariant (λ held holds.
    rw (← row) (c.update.ensures held holds))
