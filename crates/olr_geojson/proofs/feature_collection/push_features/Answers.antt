use Rattle.olr_geojson.proofs.Members.{features}
use Rattle.olr_geojson.proofs.feature_collection.push_features.Goals as goal

pub returns : goal.returns
returns c = λ all is.
    let rest = features all _ _ c.behind.ensures.begins c.behind.ensures.empty is in
    cc c.in_ok-push_str.ensures.bytes
