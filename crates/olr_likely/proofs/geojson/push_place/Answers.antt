use Rattle.std.proofs.Common.{arith, refl}
use Rattle.serde_json.specs.Read.{max_depth}
use Rattle.olr_report.specs.ShownMap.{map_shown}
use Rattle.olr_likely.proofs.Nested.{place_nests}
use Rattle.olr_likely.proofs.geojson.push_place.Goals as goal

pub push_drawn-requires : goal.push_drawn-requires
push_drawn-requires c κs = (
  (refl, tt),
  place_nests (map_shown c.args.drawing.now.on) max_depth (omega arith) _ c.args.place.now,
)
