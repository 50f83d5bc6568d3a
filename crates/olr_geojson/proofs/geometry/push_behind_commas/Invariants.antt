use Rattle.std.proofs.Common.{◌≡◌, ◌++◌, drop, map, string_bytes}
use Rattle.olr_base.specs.Coordinates.{coordinates_of}
use Rattle.olr_geojson.specs.Coordinate.{position_text}
use Rattle.olr_geojson.specs.Joined.{behind_commas}
use Rattle.olr_geojson.proofs.geometry.push_behind_commas.Given as goal

-- the text so far, with the positions that are left, is the whole text
abbrev pub invariant-loop-position : goal.invariant-loop-position
invariant-loop-position l = string_bytes l.out
    ++ behind_commas position_text (map coordinates_of (drop l.position-index l.positions))
    ≡ string_bytes l.initial.out ++ behind_commas position_text (map coordinates_of l.positions)
