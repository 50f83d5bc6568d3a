-- The names that most proofs of this crate speak of, passed on from one place.
pub use Rattle.std.proofs.Common.{◌%◌, ◌*◌, ◌+◌, ◌++◌, ◌-◌, ◌/◌, ◌<◌, Err, List, None, Ok, Option, Some, [], ap, append_assoc, arith, below_more, inl, inr, length, of_z, refl, rules, subst, suc, to_z, w32, zero, ℕ, ◌∙◌, ◌∷◌, ◌≡◌, ◌≤◌}
pub use Rattle.std.proofs.lemmas.Int.{ints}
pub use Rattle.std.specs.Prelude.{◌==◌, Bool, IfOk, MatchOption, Result, false, if◌then◌else◌, replicate, slice_get, true, ℤ}
pub use Rattle.base64.specs.Engines.{standard}
pub use Rattle.base64.specs.GeneralPurpose.{decode_of}
pub use Rattle.olr_base.specs.Coordinates.{Coordinates, IsInRange}
pub use Rattle.olr_binary.specs.Coordinates.{IsFirstPlace, moved, place_of, two_bytes_at}
pub use Rattle.olr_binary.specs.Layout.{IsLayout, last_attribute_of, status_of}
pub use Rattle.olr_binary.specs.Outcome.{IsOutcome, IsTextOf}
pub use Rattle.olr_binary.specs.Point.{ArePoints, IsNext, IsPoint}
pub use Rattle.olr_binary.specs.Reference.{AreLinked, IsOffset, IsReference, IsReferenceOf, offset_of, points_of}
pub use Rattle.olr_binary.specs.Refusal.{BytesCondition, IsFirstOutOfRange, IsLineSize, IsPointAlongSize, IsSize, Refuses, RefusesBytes, flags_set, order_of}
pub use Rattle.olr_binary.specs.Text.{AreBytes, IsBase64, trimmed, without_leading, without_trailing}
pub use Rattle.olr_binary.specs.declared.point.Next.{Next}
pub use Rattle.olr_binary.specs.declared.point.Point.{Point}
pub use Rattle.olr_binary.specs.declared.reference.Reference.TheVariants.{Line, PointAlong}
pub use Rattle.olr_binary.specs.declared.reference.Reference.{Reference}
pub use Rattle.olr_binary.specs.declared.refusal.Kind.TheVariants.{Area, GeoCoordinate}
pub use Rattle.olr_binary.specs.declared.refusal.Refused.TheVariants.{BadLength, BadVersion, Empty, NotBase64, OffsetFlags, OtherKind, OutOfRange, PoiWithAccess, TooLong, TooManyPoints}
pub use Rattle.olr_binary.specs.declared.refusal.Refused.{Refused}
