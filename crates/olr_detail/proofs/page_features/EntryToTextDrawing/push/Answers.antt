use Rattle.std.proofs.Common.{◌≡◌, ◌++◌, ◌∙◌, ap, arith, refl, subst, string_bytes}
use Rattle.std.proofs.lemmas.List.{append_assoc}
use Rattle.std.proofs.lemmas.Result.{on_ok_weaker}
use Rattle.std.specs.Prelude.{OnOk, codes}
use Rattle.serde_json.specs.Read.{max_depth}
use Rattle.olr_report.proofs.JsonShape.{drawn_nests}
use Rattle.olr_geojson.specs.Feature.{Feature, feature_text}
use Rattle.olr_matching.specs.declared.matched.Matched.{Matched}
use Rattle.olr_report.specs.Entries.{entry_of}
use Rattle.olr_report.specs.Location.{first_length, located_value}
use Rattle.olr_report.specs.ShownMap.{map_shown}
use Rattle.olr_detail.specs.GeoJson.{entry_feature}
use Rattle.olr_detail.proofs.Features.{entry_is}
use Rattle.olr_detail.proofs.page_features.EntryToTextDrawing.push.Goals as goal

pub push_drawn-requires : goal.push_drawn-requires
push_drawn-requires c κs = (
  (refl, tt),
  drawn_nests (map_shown c.args.drawing.now.on) max_depth
      (omega arith) c.part_named.result (record {
        key = c.args.self.now.key.now;
        matched = c.args.self.now.matched.now;
        route = c.deref.result.now;
        located = located_value c.args.self.now.location;
      }),
)

pub returns : goal.returns
returns c =
    let length = c.first_length-length.ensures ∙ ap first_length (c.deref-2.ensures.value
    ∙ ap (λ (matched : Matched). matched.legs) c.matched.view_is) in
    on_ok_weaker c.push_drawn.result (λ is. is ∙ append_assoc (string_bytes c.args.out.now)
    (codes ",") (feature_text (entry_feature (map_shown c.args.drawing.now.on)
    c.args.drawing.now.reference.now c.args.drawing.now.part (entry_of c.args.self.now))))
    (subst (λ (feature : Feature). OnOk c.push_drawn.result (string_bytes c.push_drawn.new.out
    ≡ string_bytes c.args.out.now ++ codes "," ++ feature_text feature))
    (entry_is (map_shown c.args.drawing.now.on) c.args.drawing.now.reference.now
    c.args.drawing.now.part _ _ _ _ c.part_named.ensures (entry_of c.args.self.now) length
    c.deref-3.ensures.value c.deref.ensures.value)
    c.push_drawn.ensures)
