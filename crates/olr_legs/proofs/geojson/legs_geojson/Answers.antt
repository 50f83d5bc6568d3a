use Rattle.std.proofs.Common.{◌∙◌, ap, option_map}
use Rattle.serde_json.specs.Data.{Data, object}
use Rattle.serde_json.specs.Written.{compact_text}
use Rattle.olr_legs.specs.GeoJson.{collection_members, features_of_legs, members_with}
use Rattle.olr_legs.specs.Json.{matching_value}
use Rattle.olr_legs.proofs.Cursors.{same_cursor}
use Rattle.olr_legs.proofs.Features.{features_are, not_empty}
use Rattle.olr_legs.proofs.geojson.legs_geojson.Goals as goal

pub returns : goal.returns
returns c =
    let road = c.args.map.now in
    let shown = c.args.shown.now in
    let matching = option_map (λ key. key.now) shown.matching in
    c.in_ok-text.ensures (features_of_legs road 1 shown.legs.now) (collection_members matching)
    (not_empty (matching_value matching))
    (c.deref.ensures ∙ (rw c.new-features.ensures.bytes at c.in_ok-push_texts.ensures)
    ∙ features_are road 1 shown.legs.now)
    (c.deref-2.ensures ∙ c.in_ok-others.ensures.text_is
    ∙ ap (λ (matching : Data). compact_text (object (members_with matching)))
    (same_cursor c.cursor_of.result shown.matching c.cursor_of.ensures))
