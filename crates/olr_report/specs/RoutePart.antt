-- The words for the parts of a route.
use Rattle.std.specs.Prelude.{ℕ, List, Option, codes, option_map}
use Rattle.serde_json.specs.Data.{Data, string}
use Rattle.olr_report.specs.declared.route_part.RoutePart.{RoutePart}
use Rattle.olr_report.specs.declared.route_part.RoutePart.TheVariants.{Inner, Outer, Route}

-- the word for a part of a route
abbrev pub part_word : RoutePart → List ℕ
part_word Route = codes "route"
part_word Outer = codes "outer"
part_word Inner = codes "inner"

-- the same as JSON, for the part that is drawn, where one is
abbrev pub part_drawn : Option RoutePart → Option Data
part_drawn part = option_map (λ part. string (part_word part)) part
