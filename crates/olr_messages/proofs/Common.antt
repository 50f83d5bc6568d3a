-- The names that most proofs of this crate speak of, passed on from one place.
pub use Rattle.std.proofs.Common.{◌+◌, ◌++◌, ◌-◌, ◌<◌, List, None, Option, Some, [], ◌^◌, add-one, ap, append-nil, append_assoc, arith, drop, get_or, inl, inr, length, length-append, min, refl, rules, suc, sym, take, take-append-drop, zero, ℕ, ◌↔◌, ◌∙◌, ◌∷◌, ◌≡◌, ◌≢◌, ◌≤◌}
pub use Rattle.std.proofs.Math.Seq.{drop-cons, take-append-add}
pub use Rattle.std.proofs.lemmas.Bool.Decides.{eqb_tells}
pub use Rattle.std.proofs.lemmas.Bool.{cases_lt, eq-eqb, eqb-false, eqb-true}
pub use Rattle.std.proofs.lemmas.List.Elements.{All-append, All-contains, All-from_get_or, All-head, All-nil, All-tail}
pub use Rattle.std.proofs.lemmas.List.{drop-drop, drop-take, get_or-take, get_or_default, length-drop, length-take, take-append-le, take_all}
pub use Rattle.std.specs.Io.KnownBytes.{Consumes, IsAtEnd, Keeps, prepend_known}
pub use Rattle.std.specs.Prelude.{◌==◌, All, Bool, Contains, IsTrue, IsUtf8, MatchBool, false, is_some, not, slice_range, true, vec_len}
pub use Rattle.olr_base.specs.Counting.{one_more}
pub use Rattle.olr_messages.specs.Content.{Empty, IsMessage, IsSplitAtTab, Long, Message, NotText, Text}
pub use Rattle.olr_messages.specs.Lines.{onto, record_of}
unfoldable pub use Rattle.olr_messages.specs.Lines.{lines_of}
pub use Rattle.olr_messages.specs.Messages.{HasNoLf, IsCutOff, IsGiven, IsNext, IsOver, Reading, ReadsAll, ReadsLine, ReadsToLf, left_of}
unfoldable pub use Rattle.olr_messages.specs.Messages.{front_of}
