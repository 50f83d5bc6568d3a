-- The names that most proofs of this crate speak of, passed on from one place.
pub use Rattle.std.proofs.Common.{◌*◌, ◌+◌, ◌++◌, ◌-◌, ◌-ℤ◌, ◌<◌, Bool, Bor, FitsSigned, List, None, Option, Some, [], ◌^◌, add-one, ap, append-nil, append_assoc, arith, cond, drop, false, get_or, inl, inr, length, map, of_z, option_map, pos, refl, rules, subst, suc, sym, take, to_z, true, w64, zero, ℕ, ℤ, ◌∙◌, ◌∷◌, ◌≡◌, ◌≢◌, ◌≤◌, ◌⊎◌}
pub use Rattle.std.proofs.Math.ListN.{get_or-append}
pub use Rattle.std.proofs.lemmas.Int.Digits.{digits_more, digits_value_more}
pub use Rattle.std.proofs.lemmas.List.{length-append, length-drop, length-take-le, map-append}
pub use Rattle.std.proofs.lemmas.Str.Parse.{digit_at, digits_value_short, numerals_by_value, tells_digits}
pub use Rattle.std.specs.Prelude.{MatchBool, neg_ℤ, not, slice_index}
pub use Rattle.std.specs.Str.Parse.{AllDigits, digits_value}
pub use Rattle.csv.specs.Machine.{Read, ends_at_end, is_end, step}
unfoldable pub use Rattle.csv.specs.Machine.{next_record}
pub use Rattle.csv.specs.Reading.{NextIs, ReadRecord, Ready, default_config, has_failed, is_flexible, pending_of, reader_state, records_next, source_of, strip_bom, took_first}
unfoldable pub use Rattle.csv.specs.Reading.{records_from}
pub use Rattle.csv.specs.declared.parser.State.{State}
pub use Rattle.olr_base.specs.Coordinates.{Coordinates, coordinates_of}
pub use Rattle.olr_records.specs.Fields.{IsNumber, IsSignedNumber, SpellsLatitude, SpellsLongitude}
pub use Rattle.olr_records.specs.Front.{Begins, IsSeparator, behind}
pub use Rattle.olr_records.specs.Shape.{AreItems, IsItem}
pub use Rattle.olr_records.specs.inner.Amount.{IsAmount}
