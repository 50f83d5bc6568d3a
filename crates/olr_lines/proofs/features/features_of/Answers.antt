use Rattle.std.proofs.Common.{◌∙◌}
use Rattle.olr_lines.specs.GeoJson.{line_feature}
use Rattle.olr_lines.proofs.Shown.{features_are}
use Rattle.olr_lines.proofs.features.features_of.Goals as goal

pub returns : goal.returns
returns c = (rw c.new-features.ensures.bytes at c.in_ok-push_texts.ensures)
    ∙ features_are (line_feature c.args.on.now.map.now c.args.on.now.shapes) 1 c.args.ranks.now
