use Rattle.std.proofs.Common.{drop, take}
use Rattle.olr_words.specs.Options.{subcommands}
use Rattle.olr_words.specs.RecordCommand.{options_in}
use Rattle.olr_words.proofs.Tables.{in_first, in_second}
use Rattle.olr_words.proofs.command.subcommand_named.Goals as goal

pub returns-in-Some-clause-options : goal.returns-in-Some-clause-options
returns-in-Some-clause-options c = in_first c.args.name.now (take 4 subcommands) (drop 4 subcommands)
    (options_in c.in-Some.subcommand) c.in-Some.ensures.options

pub returns-in-None-clause-options : goal.returns-in-None-clause-options
returns-in-None-clause-options c = in_second c.args.name.now (take 4 subcommands) (drop 4 subcommands)
    _ c.in-None.ensures.options c.named_in-in-None.ensures.options
