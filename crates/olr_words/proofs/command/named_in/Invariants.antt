use Rattle.std.proofs.Common.{◌≡◌, drop}
use Rattle.std.specs.Prelude.{find}
use Rattle.olr_words.proofs.Tables.{has_name}
use Rattle.olr_words.proofs.command.named_in.Given as goal

abbrev pub invariant-loop-subcommand : goal.invariant-loop-subcommand
invariant-loop-subcommand l = find (has_name l.fn.name) l.fn.subcommands
    ≡ find (has_name l.fn.name) (drop l.subcommand-index l.fn.subcommands)
