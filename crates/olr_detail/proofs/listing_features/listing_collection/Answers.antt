use Rattle.std.proofs.Common.{◌∙◌, refl}
use Rattle.arrayvec.specs.ArrayVec.{ArrayVec}
use Rattle.olr_candidates.specs.declared.candidate.Candidate.{Candidate}
use Rattle.serde_json.specs.Data.{no_members}
use Rattle.olr_report.specs.ShownMap.{map_shown}
use Rattle.olr_detail.specs.GeoJson.{candidate_feature, typed}
use Rattle.olr_detail.proofs.Features.{not_empty, points_are}
use Rattle.olr_detail.proofs.listing_features.listing_collection.Goals as goal

pub returns : goal.returns
returns c = c.in_ok-text.ensures _ (typed no_members) (not_empty _ _ _) refl
    (c.deref.ensures ∙ (rw c.new-features.ensures.bytes at c.in_ok-push_texts.ensures)
    ∙ points_are (candidate_feature (map_shown c.args.on.now)) (λ (list : ArrayVec Candidate). list.items) 1 c.args.lists.now)
