use Rattle.olr_records.proofs.Common.{ℕ, ◌+◌, ◌*◌, ◌<◌, length, ap, ◌∙◌, arith, digits_more}
use Rattle.olr_records.proofs.Digits.{small, value_after}
use Rattle.olr_records.proofs.front.more_digits.Goals as goal

pub overflow_mul-value : goal.overflow_mul-value
overflow_mul-value c =
    let test = c.loop-place-test.true in
    let less = small c.args.text.now c.loop-place.place 16 (omega arith) (omega arith)
    c.loop-place.invariant.digits in
    omega arith

pub overflow_add-value : goal.overflow_add-value
overflow_add-value c =
    let test = c.loop-place-test.true in
    let less = small c.args.text.now c.loop-place.place 16 (omega arith) (omega arith)
    c.loop-place.invariant.digits in
    let range = c.if-not-is_ascii_digit.ensures.cases in
    omega arith

pub loop-place-preserved : goal.loop-place-preserved
loop-place-preserved c =
    let text = c.args.text.now in
    let i = c.loop-place.place in
    let ensured = c.if-not-is_ascii_digit.ensures in
    let inside : i < length text = omega arith in
    record {
      digits = digits_more 10 text i inside c.loop-place.invariant.digits ensured.bound;
      value = ap (λ (d : ℕ). 10 * c.loop-place.value + d) c.from.ensures
          ∙ value_after _ i inside ensured.cases c.loop-place.invariant.value;
    }
