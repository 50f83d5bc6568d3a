use Rattle.olr_geojson.proofs.Members.{members}
use Rattle.olr_geojson.proofs.feature_collection.push_others.Goals as goal

pub returns : goal.returns
unfolding lib.Utf8.encode
returns c = λ all some is.
    members all _ _ _ some (c.behind.ensures.begins _ is)
    (rw (← c.in_ok-push.ensures.bytes) c.in_ok-push_str.ensures.bytes)
