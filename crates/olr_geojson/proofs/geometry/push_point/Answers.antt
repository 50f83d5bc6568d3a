use Rattle.olr_geojson.proofs.Appended.{three}
use Rattle.olr_geojson.proofs.geometry.push_point.Goals as goal

pub returns : goal.returns
returns c =
    three _ _ _ _ _ _ _ c.in_ok-push_str.ensures.bytes c.in_ok-push_position.ensures
    c.in_ok-push_str-2.ensures.bytes
