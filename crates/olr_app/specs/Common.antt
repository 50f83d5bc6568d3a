-- The names that most definitions of this crate speak of, passed on from one place.
pub use Rattle.olr_text.specs.JsonValues.{IsJsonLine}
pub use Rattle.olr_binary.specs.Outcome.{IsOutcome}
pub use Rattle.olr_binary.specs.declared.reference.Reference.{Reference}
pub use Rattle.olr_binary.specs.declared.refusal.Refused.{Refused}
pub use Rattle.olr_candidates.specs.declared.tolerances.Tolerances.{Tolerances}
pub use Rattle.olr_keys.specs.Answers.{AreAnswers}
pub use Rattle.olr_keys.specs.Key.{KeyValue}
pub use Rattle.olr_keys.specs.declared.cursor.CursorRead.{CursorRead}
pub use Rattle.olr_keys.specs.declared.mark.Mark.{Mark}
pub use Rattle.olr_road.specs.RoadMap.{RoadMap}
pub use Rattle.olr_map.specs.declared.fault.MapFault.{MapFault}
pub use Rattle.olr_fingerprint.specs.Fingerprint.{IsFingerprint}
pub use Rattle.olr_matching.specs.Layers.{AreLayersOn, LayersValue}
pub use Rattle.olr_base.specs.declared.failure.Failed.{Failed}
pub use Rattle.olr_places.specs.declared.limits.PlaceLimits.{PlaceLimits}
pub use Rattle.olr_records.specs.declared.file.File.{File}
pub use Rattle.olr_request.specs.declared.request.Extras.{Extras}
