use Rattle.std.proofs.Common.{ap, ◌∙◌}
use Rattle.olr_report.specs.ShownMap.{MapShown}
use Rattle.olr_app.proofs.PagesOf.{same_road}
use Rattle.olr_app.proofs.drawing.drawing_for.Goals as goal

pub returns-clause-road : goal.returns-clause-road
returns-clause-road c = ap (λ (on : MapShown). on.road) c.new.ensures
    ∙ same_road c.args.extras.now.shape c.args.map.now c.args.reference.now
