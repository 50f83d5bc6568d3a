-- Features, and their texts.
use Rattle.std.specs.Prelude.{ℕ, List, ◌++◌, codes}
use Rattle.serde_json.specs.Data.{Data}
use Rattle.serde_json.specs.Written.{compact_text}
use Rattle.olr_geojson.specs.Geometry.{Geometry, geometry_text}
use Rattle.olr_geojson.specs.Joined.{joined}

-- something that lies somewhere, with its properties
pub record Feature : Type 0 where
  pub geometry : Geometry
  pub properties : Data

abbrev pub feature_text : Feature → List ℕ
feature_text feature =
    codes "{\"geometry\":" ++ geometry_text feature.geometry ++ codes ",\"properties\":"
    ++ compact_text feature.properties ++ codes ",\"type\":\"Feature\"}"

-- features, joined by commas
abbrev pub features_text : List Feature → List ℕ
features_text all = joined feature_text all
