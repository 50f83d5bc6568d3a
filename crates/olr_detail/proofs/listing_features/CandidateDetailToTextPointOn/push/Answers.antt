use Rattle.std.proofs.Common.{◌∙◌, string_bytes}
use Rattle.std.proofs.lemmas.List.{append_assoc}
use Rattle.std.specs.Prelude.{codes}
use Rattle.olr_geojson.specs.Feature.{feature_text}
use Rattle.olr_report.specs.ShownMap.{map_shown}
use Rattle.olr_detail.specs.GeoJson.{detail_properties, candidate_in_detail}
use Rattle.olr_detail.proofs.listing_features.CandidateDetailToTextPointOn.push.Goals as goal

pub returns : goal.returns
returns c =
    let on = map_shown c.args.on.now.on in
    let point = c.args.on.now.point in
    (rw c.place_geometry.ensures at (c.in_ok-push_feature.ensures
    (detail_properties on point c.args.rank c.args.self.now) (c.deref.ensures ∙ c.in_ok-text.ensures.text_is)))
    ∙ append_assoc (string_bytes c.args.out.now) (codes ",")
    (feature_text (candidate_in_detail on point c.args.rank c.args.self.now))
