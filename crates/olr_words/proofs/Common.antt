-- The names that most proofs of this crate speak of, passed on from one place.
pub use Rattle.std.proofs.Common.{◌+◌, ◌<◌, None, Option, Some, ap, arith, get_or, inl, inr, length, subst, sym, ℕ, ◌∙◌, ◌≡◌, ◌≤◌}
pub use Rattle.std.specs.Prelude.{unwrap_or}
pub use Rattle.olr_candidates.proofs.Values.{in_range, order_at, same_name}
pub use Rattle.olr_candidates.specs.Tolerances.{IsFirstOutOfRange, IsTolerance, names, order_of}
pub use Rattle.olr_candidates.specs.declared.tolerances.Tolerance.TheVariants.{Radius}
pub use Rattle.olr_candidates.specs.declared.tolerances.Tolerances.{Tolerances}
pub use Rattle.olr_words.specs.Profile.{profile_value}
pub use Rattle.olr_words.specs.Words.{AreTolerances, IsRefusedQuestion, IsRefusedWhat, value_of}
pub use Rattle.olr_words.specs.declared.words.Given.{Given}
