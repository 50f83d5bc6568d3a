use Rattle.std.proofs.Common.{◌∙◌, ◌+◌, [], Bor, List, ap, sym, get_or, drop}
use Rattle.std.proofs.lemmas.List.{at_drop_more}
use Rattle.clap.specs.Words.{app_of}
use Rattle.olr_words.specs.RecordCommand.{record_options, with_options}
use Rattle.olr_words.specs.declared.options.CommandOption.{CommandOption}
use Rattle.olr_words.proofs.RecordOptions.{both}
use Rattle.olr_words.proofs.Values.{of_groups}
use Rattle.olr_words.proofs.record_command.record_command_of.Goals as goal

pub loop-options-preserved : goal.loop-options-preserved
loop-options-preserved c =
    let groups : List (Bor (List CommandOption)) = c.args.subcommand.now.options.now in
    let d : Bor (List CommandOption) = record { ref_ptr = (0, 0); now = [] } in
    let rest : List (Bor (List CommandOption)) = drop (c.loop-options.options-index + 1) groups in
    c.loop-options.invariant
    ∙ (ap (with_options (app_of c.loop-options.command))
    (at_drop_more of_groups groups c.loop-options.options-index d c.loop-options-test.true)
    ∙ (sym (both (app_of c.loop-options.command)
    (record_options (get_or groups c.loop-options.options-index d).now) (of_groups rest))
    ∙ sym (ap (λ app. with_options app (of_groups rest)) c.in_ok-command-2.ensures)))
