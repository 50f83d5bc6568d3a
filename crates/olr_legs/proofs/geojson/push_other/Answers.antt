use Rattle.std.proofs.Common.{◌∙◌, string_bytes}
use Rattle.olr_legs.specs.GeoJson.{path_feature}
use Rattle.olr_legs.proofs.Features.{one_feature}
use Rattle.olr_legs.proofs.geojson.push_other.Goals as goal

pub returns-in_ok-push_path-in-Path : goal.returns-in_ok-push_path-in-Path
returns-in_ok-push_path-in-Path c = rw c.in-Path.is (c.in_ok-push_path-in-Path.ensures
    ∙ one_feature (string_bytes c.args.out.now)
    (path_feature c.args.on.now.map.now c.args.number c.in-Path.path))
