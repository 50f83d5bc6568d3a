use Rattle.std.proofs.Common.{◌≢◌, ◌∙◌, ap, subst, Bor, List, ℕ, [], Bool}
use Rattle.clap.specs.Walk.{texts}
use Rattle.clap.specs.Words.{fault_of}
use Rattle.olr_words.specs.Found.{AreFound}
use Rattle.olr_words.specs.Record.{app_of_words, parts_of}
use Rattle.olr_words.specs.RecordCommand.{options_in, record_app}
use Rattle.olr_words.proofs.Faults.{found_by, refused_by, weaker}
use Rattle.olr_words.proofs.record.found_in.Goals as goal

pub returns-in-Ok-clause-found : goal.returns-in-Ok-clause-found
returns-in-Ok-clause-found c =
    subst (λ (words : List (Bor (List ℕ))). AreFound
    (app_of_words c.args.subcommand.now (parts_of c.args.words.now)) (texts words) c.in-Ok.found)
    c.as_slice.ensures.value
    (found_by _ _ _ _ _ _ (c.in_ok-command.ensures
    ∙ ap (λ (b : Bool). record_app c.args.subcommand.now.name.now b (options_in c.args.subcommand.now))
    c.has_reference.ensures) c.in-Ok.ensures.kinds c.in-Ok.ensures.ok.2)

pub returns-clause-refused : goal.returns-clause-refused
returns-clause-refused c = weaker
    (λ is. subst (λ (words : List (Bor (List ℕ))). fault_of
    (app_of_words c.args.subcommand.now (parts_of c.args.words.now)) (texts words) ≢ [])
    c.as_slice.ensures.value
    (refused_by _ _ c.in-Err.error _ _ _ (c.in_ok-command.ensures
    ∙ ap (λ (b : Bool). record_app c.args.subcommand.now.name.now b (options_in c.args.subcommand.now))
    c.has_reference.ensures) c.in-Err.ensures.kinds is)) _
    c.refused.ensures
