use Rattle.olr_geojson.proofs.Members.{line}
use Rattle.olr_geojson.proofs.feature_collection.collection.Goals as goal

pub returns : goal.returns
unfolding lib.Utf8.encode
returns c = λ all members some features others.
    line _ _ _ _ _ _ _ c.in_ok-text.ensures.bytes c.in_ok-push.ensures.bytes
    (c.in_ok-push_members.ensures all members some features others) c.in_ok-push-2.ensures.bytes
