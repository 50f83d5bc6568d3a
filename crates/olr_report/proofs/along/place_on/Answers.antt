use Rattle.olr_report.proofs.Common.{◌∙◌, arith, steps_of}
use Rattle.olr_report.proofs.PlacesOnSteps.{some_within}
use Rattle.olr_report.proofs.StepLists.{length-steps_of}
use Rattle.olr_report.proofs.along.place_on.Goals as goal

pub unreachable-requires : goal.unreachable-requires
unreachable-requires c =
    let total = length-steps_of c.args.pieces.now in
    let found = some_within (steps_of c.args.pieces.now) c.args.distance
    (omega (arith, total, c.requires.positive)) (omega (arith, total, c.requires.within)) in
    c.in_default.not-Some found.0 (c.place_along.ensures ∙ found.1)
