use Rattle.std.proofs.Common.{◌∙◌, ◌+◌, ap, sym, get_or, drop}
use Rattle.std.proofs.lemmas.List.{at_drop_more, drop_all}
use Rattle.clap.specs.Words.{app_of}
use Rattle.olr_words.specs.RecordCommand.{record_options, with_options}
use Rattle.olr_words.proofs.RecordOptions.{added, left_out, none_more, no_option}
use Rattle.olr_words.proofs.record_command.with_options.Goals.{then-is_of_record+in_ok-command, else-is_of_record}
use Rattle.olr_words.proofs.record_command.with_options.Goals as goal

pub loop-option-preserved : goal.loop-option-preserved
loop-option-preserved c =
    let so_far = c.loop-option.invariant
    ∙ ap (with_options (app_of c.loop-option.command))
    (at_drop_more record_options c.args.options.now c.loop-option.option-index no_option
    c.loop-option-test.true) in
    let option = get_or c.args.options.now c.loop-option.option-index no_option in
    let rest = drop (c.loop-option.option-index + 1) c.args.options.now in
    elim c.if-is_of_record.branch [
      | then-is_of_record+in_ok-command w ↦ rw w.command-is (so_far
          ∙ added _ _ _ option rest (sym c.is_of_record.ensures ∙ w.if-is_of_record.true)
          w.argument.ensures.rule
          (w.in_ok-command.ensures.shape w.argument.ensures.local))
      | else-is_of_record w ↦ rw w.command-is (so_far ∙ left_out _ option rest
          (sym c.is_of_record.ensures ∙ w.if-is_of_record.false))
    ]

pub returns : goal.returns
returns c = sym (none_more (app_of c.loop-option.command)) ∙ sym (c.loop-option.invariant
    ∙ ap (λ os. with_options (app_of c.loop-option.command) (record_options os))
    (drop_all c.loop-option.option-index c.args.options.now c.loop-option-test.false))
