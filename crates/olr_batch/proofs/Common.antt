-- The names that most proofs of this crate speak of, passed on from one place.
pub use Rattle.std.proofs.Common.{◌+◌, ◌++◌, ◌-◌, Bool, Bor, Contains, Err, IsTrue, List, None, Ok, Option, Some, [], ◌^◌, ap, ap₂, append_assoc, arith, codes, false, inl, inr, length, length-append, refl, rules, string_bytes, subst, sym, true, ℕ, ◌↔◌, ◌∙◌, ◌∷◌, ◌≡◌, ◌≤◌, ◌⊎◌}
pub use Rattle.std.proofs.KnownBytes.{Appends-trans}
pub use Rattle.std.proofs.lemmas.List.{append-nil}
pub use Rattle.std.specs.Io.KnownBytes.{Appends, Consumes, IsAtEnd, prepend_known}
pub use Rattle.std.specs.List.{concat}
pub use Rattle.std.specs.Prelude.{IfErr, IfOk, IfSome, Result}
pub use Rattle.olr_app.proofs.Single.{exit}
pub use Rattle.olr_app.specs.Writing.{HasStopped, no_call}
pub use Rattle.olr_base.specs.declared.failure.Failed.{Failed}
pub use Rattle.olr_batch.specs.Line.{bytes_of, line_text, tokens_behind}
pub use Rattle.olr_batch.specs.Records.{AreWrittenFor, IsLineOfText, IsWrittenFor}
pub use Rattle.olr_batch.specs.Run.{AreAnswered, AreBegun, IsLeft, IsNextOutput, IsStopped, IsWrittenTo}
pub use Rattle.olr_batch.specs.Steps.{IsLast, IsOutputOfNext, IsPassedOn, IsSame, IsStepStopped, MayAsk}
pub use Rattle.olr_messages.specs.Content.{IsMessageOfLine, Message, message_of}
unfoldable pub use Rattle.olr_messages.specs.Lines.{lines_of}
pub use Rattle.olr_messages.specs.Messages.{IsNext, IsOver, left_of}
pub use Rattle.olr_request.specs.declared.fault.Fault.TheVariants.{InputNotRead, NoMemory, WriteFailed}
pub use Rattle.olr_request.specs.declared.fault.Fault.{Fault}
pub use Rattle.olr_road.specs.RoadMap.{RoadMap}
pub use Rattle.olr_words.specs.declared.asked.Records.{Records}
pub use Rattle.serde_json.specs.Data.{Data}
pub use Rattle.serde_json.specs.Written.{compact_text}
