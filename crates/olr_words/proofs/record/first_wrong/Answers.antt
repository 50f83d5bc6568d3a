use Rattle.clap.specs.Words.{first_value, found_of}
use Rattle.olr_words.specs.Record.{HasValue}
use Rattle.olr_words.proofs.Values.{option_right, option_wrong}
use Rattle.olr_words.proofs.record.first_wrong.Goals as goal

pub returns-then-is_wrong-clause-wrong : goal.returns-then-is_wrong-clause-wrong
returns-then-is_wrong-clause-wrong c = option_wrong
    (HasValue (first_value (found_of c.args.found.now))) c.args.options.now
    c.loop-option.option-index c.loop-option-test.true c.loop-option.invariant
    (c.is_wrong.ensures.wrong c.if-is_wrong.true)

pub loop-option-preserved : goal.loop-option-preserved
loop-option-preserved c = option_right (HasValue (first_value (found_of c.args.found.now)))
    c.args.options.now c.loop-option.option-index c.loop-option-test.true c.loop-option.invariant
    (c.is_wrong.ensures.right c.if-is_wrong.false)
