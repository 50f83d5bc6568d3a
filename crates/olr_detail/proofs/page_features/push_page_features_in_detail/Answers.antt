use Rattle.std.proofs.Common.{◌∙◌, ◌++◌, ap, map, string_bytes}
use Rattle.olr_report.specs.ShownMap.{map_shown}
use Rattle.olr_detail.specs.Page.{detailed_of}
use Rattle.olr_detail.specs.GeoJson.{detailed_feature}
use Rattle.olr_detail.proofs.Features.{behind_each}
use Rattle.olr_detail.proofs.page_features.push_page_features_in_detail.Goals as goal

pub returns : goal.returns
returns c = record {
  all = map detailed_of c.in_ok-all.all.items;
  are = c.in_ok-all.ensures;
  text_is = rw c.deref.ensures.value at c.in_ok-push_texts.ensures
      ∙ ap (λ rest. string_bytes c.args.out.now ++ rest)
      (behind_each detailed_of (detailed_feature (map_shown c.args.drawing.now.on)
      c.args.drawing.now.reference.now c.args.drawing.now.part) 1 c.in_ok-all.all.items);
}
