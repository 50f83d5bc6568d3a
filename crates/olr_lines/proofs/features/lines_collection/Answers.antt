use Rattle.std.proofs.Common.{◌∙◌, map}
use Rattle.olr_lines.specs.GeoJson.{line_feature, members_behind}
use Rattle.olr_lines.proofs.Shown.{not_empty}
use Rattle.olr_lines.proofs.features.lines_collection.Goals as goal

pub returns : goal.returns
returns c =
    let ranks = c.args.found.now.ranks.items in
    c.in_ok-text.ensures (map (line_feature c.args.map.now c.args.shapes) ranks)
    (members_behind c.args.found.now.more) (not_empty _ _ _)
    (c.deref-2.ensures ∙ (rw c.deref.ensures.value at c.in_ok-features.ensures))
    (c.deref-3.ensures ∙ c.in_ok-others.ensures.text_is)
