use Rattle.std.proofs.Common.{◌∙◌, refl}
use Rattle.olr_detail.specs.declared.listing.PointDetails.{PointDetails}
use Rattle.serde_json.specs.Data.{no_members}
use Rattle.olr_report.specs.ShownMap.{map_shown}
use Rattle.olr_detail.specs.GeoJson.{candidate_in_detail, typed}
use Rattle.olr_detail.proofs.Features.{not_empty, points_are}
use Rattle.olr_detail.proofs.listing_features.listing_collection_in_detail.Goals as goal

pub returns : goal.returns
returns c = c.in_ok-text.ensures _ (typed no_members) (not_empty _ _ _) refl
    (c.deref.ensures ∙ (rw c.new-features.ensures.bytes at c.in_ok-push_texts.ensures)
    ∙ points_are (candidate_in_detail (map_shown c.args.on.now)) (λ (point : PointDetails). point.candidates.items) 1 c.args.details.now)
