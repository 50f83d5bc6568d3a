use Rattle.std.proofs.Common.{◌≡◌, drop}
use Rattle.clap.specs.Words.{app_of}
use Rattle.olr_words.specs.RecordCommand.{record_options, with_options}
use Rattle.olr_words.proofs.record_command.with_options.Given as goal

abbrev pub invariant-loop-option : goal.invariant-loop-option
invariant-loop-option l = with_options (app_of l.fn.command) (record_options l.fn.options)
    ≡ with_options (app_of l.command) (record_options (drop l.option-index l.fn.options))
