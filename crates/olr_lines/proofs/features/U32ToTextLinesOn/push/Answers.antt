use Rattle.std.proofs.Common.{◌∙◌, arith, string_bytes}
use Rattle.std.proofs.lemmas.List.{append_assoc}
use Rattle.std.specs.Prelude.{codes}
use Rattle.olr_geojson.specs.Feature.{feature_text}
use Rattle.olr_lines.specs.GeoJson.{line_feature}
use Rattle.olr_lines.specs.Json.{line_value}
use Rattle.olr_lines.proofs.Shown.{line_nests}
use Rattle.olr_lines.proofs.features.U32ToTextLinesOn.push.Goals as goal

pub to_json_text-requires : goal.to_json_text-requires
to_json_text-requires c = line_nests 127 (omega arith) c.args.on.now.map.now c.args.on.now.shapes c.args.self.now

pub returns : goal.returns
returns c =
    let road = c.args.on.now.map.now in
    let shapes = c.args.on.now.shapes in
    let rank = c.args.self.now in
    (rw c.line_geometry.ensures at (c.in_ok-push_feature.ensures (line_value road shapes rank)
    (c.deref.ensures ∙ c.in_ok-text.ensures.text_is)))
    ∙ append_assoc (string_bytes c.args.out.now) (codes ",") (feature_text (line_feature road shapes rank))
