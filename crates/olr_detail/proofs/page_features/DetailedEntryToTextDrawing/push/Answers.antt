use Rattle.std.proofs.Common.{◌≡◌, ◌++◌, ◌∙◌, ap, arith, refl, subst, string_bytes}
use Rattle.std.proofs.lemmas.List.{append_assoc}
use Rattle.std.proofs.lemmas.Result.{on_ok_weaker}
use Rattle.std.specs.Prelude.{OnOk, codes}
use Rattle.serde_json.specs.Read.{max_depth}
use Rattle.olr_detail.proofs.Written.{matching_nests}
use Rattle.olr_geojson.specs.Feature.{Feature, feature_text}
use Rattle.olr_matching.specs.declared.matched.Matched.{Matched}
use Rattle.olr_detail.specs.Page.{detailed_of}
use Rattle.olr_report.specs.Location.{first_length, located_value}
use Rattle.olr_report.specs.ShownMap.{map_shown}
use Rattle.olr_detail.specs.GeoJson.{detailed_feature}
use Rattle.olr_detail.proofs.Features.{detailed_is}
use Rattle.olr_detail.proofs.page_features.DetailedEntryToTextDrawing.push.Goals as goal

pub push_drawn-requires : goal.push_drawn-requires
push_drawn-requires c κs = (
  (refl, tt),
  matching_nests (map_shown c.args.drawing.now.on) max_depth
      (omega arith) c.part_named.result c.args.self.now.entry.key.now
      c.args.self.now.entry.matched.now c.deref.result.now
      (located_value c.args.self.now.entry.location) c.args.self.now.detail,
)

pub returns : goal.returns
returns c =
    let length = c.first_length-length.ensures ∙ ap first_length (c.deref-2.ensures.value
    ∙ ap (λ (matched : Matched). matched.legs) c.matched.view_is) in
    on_ok_weaker c.push_drawn.result (λ is. is ∙ append_assoc (string_bytes c.args.out.now)
    (codes ",") (feature_text (detailed_feature (map_shown c.args.drawing.now.on)
    c.args.drawing.now.reference.now c.args.drawing.now.part (detailed_of c.args.self.now))))
    (subst (λ (feature : Feature). OnOk c.push_drawn.result (string_bytes c.push_drawn.new.out
    ≡ string_bytes c.args.out.now ++ codes "," ++ feature_text feature))
    (detailed_is (map_shown c.args.drawing.now.on) c.args.drawing.now.reference.now
    c.args.drawing.now.part _ _ _ _ c.part_named.ensures (detailed_of c.args.self.now) length
    c.deref-3.ensures.value c.deref.ensures.value)
    c.push_drawn.ensures)
