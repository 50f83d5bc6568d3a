use Rattle.std.proofs.Common.{drop}
use Rattle.clap.specs.Words.{first_value, found_of}
use Rattle.olr_words.specs.Record.{HasValue}
use Rattle.olr_words.specs.RecordCommand.{record_options}
use Rattle.olr_words.proofs.Values.{Remain}
use Rattle.olr_words.proofs.record.first_wrong.Given as goal

abbrev pub invariant-loop-option : goal.invariant-loop-option
invariant-loop-option l = Remain (HasValue (first_value (found_of l.fn.found)))
    (record_options l.fn.options) (record_options (drop l.option-index l.fn.options))
