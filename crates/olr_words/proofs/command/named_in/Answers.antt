use Rattle.std.proofs.Common.{◌∙◌, ap, sym, None}
use Rattle.std.specs.Prelude.{find}
use Rattle.std.proofs.lemmas.List.{drop_all}
use Rattle.olr_words.proofs.Tables.{found_at, has_name, name_found, passed_at, row_found}
use Rattle.olr_words.proofs.command.named_in.Goals as goal

pub returns-then-eq-clause-options : goal.returns-then-eq-clause-options
returns-then-eq-clause-options c = row_found c.args.name.now c.args.subcommands.now _
    (found_at (has_name c.args.name.now) c.args.subcommands.now _ _ c.loop-subcommand-test.true
    c.loop-subcommand.invariant (sym c.eq.ensures ∙ c.if-eq.true))

pub returns-then-eq-clause-name : goal.returns-then-eq-clause-name
returns-then-eq-clause-name c = name_found c.args.name.now c.args.subcommands.now _
    (found_at (has_name c.args.name.now) c.args.subcommands.now _ _ c.loop-subcommand-test.true
    c.loop-subcommand.invariant (sym c.eq.ensures ∙ c.if-eq.true))

pub loop-subcommand-preserved : goal.loop-subcommand-preserved
loop-subcommand-preserved c = passed_at (has_name c.args.name.now) c.args.subcommands.now _ _
    c.loop-subcommand-test.true c.loop-subcommand.invariant (sym c.eq.ensures ∙ c.if-eq.false)

pub returns-clause-options : goal.returns-clause-options
returns-clause-options c = row_found c.args.name.now c.args.subcommands.now None
    (c.loop-subcommand.invariant ∙ ap (find (has_name c.args.name.now))
    (drop_all c.loop-subcommand.subcommand-index c.args.subcommands.now c.loop-subcommand-test.false))
