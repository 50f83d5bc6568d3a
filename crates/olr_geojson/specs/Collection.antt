-- A collection of features, and its text.
use Rattle.std.specs.Prelude.{ℕ, true, List, ◌++◌, codes}
use Rattle.serde_json.specs.Data.{Data, Members}
use Rattle.serde_json.specs.Written.{compact_text, members_text}
use Rattle.olr_geojson.specs.Feature.{Feature, features_text}

-- a member that stands before the features, and the comma behind it
abbrev pub before_text : List ℕ → Data → List ℕ
before_text name value = codes "\"" ++ name ++ codes "\":" ++ compact_text value ++ codes ","

-- The line of a collection: the members before the features, a comma behind each, the features, and
-- the other members (`members_text` ends with the closing brace).
abbrev pub collection_text : List ℕ → List Feature → Members → List ℕ
collection_text before all others =
    codes "{" ++ before ++ codes "\"features\":[" ++ features_text all ++ codes "]"
    ++ members_text true others ++ codes "\n"
