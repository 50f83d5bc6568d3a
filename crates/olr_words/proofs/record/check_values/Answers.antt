use Rattle.std.proofs.Common.{[]}
use Rattle.clap.specs.Words.{first_value, found_of}
use Rattle.olr_words.specs.Record.{HasValue}
use Rattle.olr_words.proofs.Faults.{weaker}
use Rattle.olr_words.proofs.Values.{group_right, group_wrong}
use Rattle.olr_words.proofs.record.check_values.Goals as goal

pub returns-in-Some-clause-wrong : goal.returns-in-Some-clause-wrong
returns-in-Some-clause-wrong c = weaker
    (λ _. group_wrong (HasValue (first_value (found_of c.args.found.now))) c.args.groups.now
    c.loop-options.options-index (record { ref_ptr = (0, 0); now = [] })
    c.loop-options-test.true c.loop-options.invariant c.in-Some.ensures.wrong) _
    c.words_fault.ensures

pub loop-options-preserved : goal.loop-options-preserved
loop-options-preserved c = group_right (HasValue (first_value (found_of c.args.found.now)))
    c.args.groups.now c.loop-options.options-index (record { ref_ptr = (0, 0); now = [] })
    c.loop-options-test.true c.loop-options.invariant c.in_default.ensures.right
