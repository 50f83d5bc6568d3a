use Rattle.std.proofs.Common.{◌≡◌, drop}
use Rattle.std.specs.List.{flat_map}
use Rattle.clap.specs.Words.{app_of}
use Rattle.olr_words.specs.RecordCommand.{options_in, record_app, record_options, with_options}
use Rattle.olr_words.proofs.record_command.record_command_of.Given as goal

abbrev pub invariant-loop-options : goal.invariant-loop-options
invariant-loop-options l = record_app l.fn.subcommand.name.now l.fn.has_reference (options_in l.fn.subcommand)
    ≡ with_options (app_of l.command)
    (flat_map (λ group. record_options group.now) (drop l.options-index l.fn.subcommand.options.now))
