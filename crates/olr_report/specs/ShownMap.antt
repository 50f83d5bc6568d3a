-- The map that JSON is written of, and whether shapes are written too.
use Rattle.std.specs.Prelude.{Bool, true, false, Option, None, Some, option_map}
use Rattle.olr_report.specs.Common.{Reference, RoadMap}
use Rattle.olr_report.specs.declared.shown_map.ShownMap.{ShownMap}

-- the map, and where shapes are asked for, the reference whose matchings are shown
pub record MapShown : Type 0 where
  pub road : RoadMap
  pub shapes_of : Option Reference

-- those that a call was given
abbrev pub map_shown : ShownMap → MapShown
map_shown on = record {
  road = on.map.now;
  shapes_of = option_map (λ reference. reference.now) on.shapes_of;
}

-- a map without shapes
abbrev pub without_shapes : RoadMap → MapShown
without_shapes road = record { road = road; shapes_of = None }

-- a map with the shapes of a reference's matchings
abbrev pub with_shapes : RoadMap → Reference → MapShown
with_shapes road reference = record { road = road; shapes_of = Some reference }

-- as it is asked for: with shapes or without
abbrev pub shown_as : Bool → RoadMap → Reference → MapShown
shown_as false road reference = without_shapes road
shown_as true road reference = with_shapes road reference
