use Rattle.std.proofs.Common.{arith}
use Rattle.olr_records.proofs.Digits.{small, all_digits, behind_digits}
use Rattle.olr_records.proofs.front.number_before.Goals as goal

pub returns-then-digits-gt-DIGITS-clause-spelled : goal.returns-then-digits-gt-DIGITS-clause-spelled
returns-then-digits-gt-DIGITS-clause-spelled c = λ n rest begins.
    let ensured = c.digits_of-digits.ensures in
    let count = all_digits _ _ _ n rest c.requires
    (record { within = ensured.within; digits = ensured.digits; all = ensured.all }) begins in
    omega arith

pub returns-in_default-clause-spelled : goal.returns-in_default-clause-spelled
returns-in_default-clause-spelled c = λ n rest begins.
    let ensured = c.digits_of-digits.ensures in
    c.in_default.ensures rest (behind_digits _ _ _ n _ c.requires
    (record { within = ensured.within; digits = ensured.digits; all = ensured.all }) begins)

pub returns-clause-small : goal.returns-clause-small
returns-clause-small c =
    let ensured = c.digits_of-digits.ensures in
    let less = small c.args.text.now c.digits_of-digits.result.count 16 ensured.within (omega arith)
    ensured.digits in
    omega arith
