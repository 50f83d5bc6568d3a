use Rattle.std.proofs.Common.{drop}
use Rattle.std.specs.List.{flat_map}
use Rattle.clap.specs.Words.{first_value, found_of}
use Rattle.olr_words.specs.Record.{HasValue}
use Rattle.olr_words.specs.RecordCommand.{record_options}
use Rattle.olr_words.proofs.Values.{Remain}
use Rattle.olr_words.proofs.record.check_values.Given as goal

abbrev pub invariant-loop-options : goal.invariant-loop-options
invariant-loop-options l = Remain (HasValue (first_value (found_of l.fn.found)))
    (flat_map (λ group. record_options group.now) l.fn.groups)
    (flat_map (λ group. record_options group.now) (drop l.options-index l.fn.groups))
