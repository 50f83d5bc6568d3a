-- The names that most proofs of this crate speak of, passed on from one place.
pub use Rattle.std.proofs.Common.{◌%◌, ◌*◌, ◌*ℤ◌, ◌+◌, ◌+ℤ◌, ◌-◌, ◌-ℤ◌, ◌/◌, ◌<◌, ◌<ℤ◌, FitsSigned, List, SFits, Some, [], ◌^◌, add-one, ap, arith, false, get_or, inl, inr, leb, length, min, nat_le, neg_ℤ, negsuc, of_z, pos, refl, rules, subst, suc, sym, to_z, w64, zero, ℕ, ℤ, ◌∙◌, ◌∷◌, ◌≡◌, ◌≢◌, ◌≤◌, ◌≤ℤ◌}
pub use Rattle.std.proofs.Math.IntN.{*ℤ-negsuc, *ℤ-zero, *ℤ_comm, neg_ℤ-neg_ℤ, pos-ne-negsuc}
pub use Rattle.std.proofs.lemmas.Bool.{cases_eq, cases_lt, cond_both, leb-false, leb-true, ltb-false}
pub use Rattle.std.proofs.lemmas.Int.{by_lt_z, fits_signed_from_abs, ints, to_z-of_z, unsigned_abs-mul}
pub use Rattle.std.proofs.lemmas.Nat.{div-add-mod', div_below, le-div, mod_below, mul-le}
pub use Rattle.std.proofs.lemmas.Option.{get_or_from_slice_get, none-some, same_Some, slice_get-get_or, slice_get_within}
pub use Rattle.std.specs.Int.{w128}
pub use Rattle.std.specs.Prelude.{Decides, int_le, int_lt, nat_abs, slice_get}
pub use Rattle.olr_base.proofs.Neither.{neither_less}
pub use Rattle.olr_base.specs.Range.{IsLatitude, IsLongitude}
pub use Rattle.olr_metric.specs.Floor.{floor}
pub use Rattle.olr_metric.specs.Plane.{scale_of, spot_of}
pub use Rattle.olr_metric.specs.Polyline.{IsAlong, IsNearest, IsNearestSegment, IsPolyline, IsSegment, IsSegmentAt, arc, arc_at}
pub use Rattle.olr_metric.specs.Root.{IsRoot, root}
unfoldable pub use Rattle.olr_metric.specs.Root.{root_within}
pub use Rattle.olr_metric.specs.Sector.{Direction, IsSector, cross, first_rays, ray_to, towards, turned, turns, zero_direction}
unfoldable pub use Rattle.olr_metric.specs.Sector.{ray}
pub use Rattle.olr_metric.specs.Segment.{IsBetween, between, dot_product, foot, spot_between}
pub use Rattle.olr_metric.specs.Spot.{IsInPlane, distance, square}
pub use Rattle.olr_metric.specs.declared.polyline.Near.{Near}
pub use Rattle.olr_metric.specs.declared.spot.Spot.{Spot}
