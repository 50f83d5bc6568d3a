-- The names that most proofs of this crate speak of, passed on from one place.
pub use Rattle.std.proofs.Common.{◌+◌, ◌++◌, ◌<◌, All, Bor, Contains, Err, List, None, Ok, Option, Some, [], add-one, ap, append_assoc, codes, drop, false, get_or, inl, inr, length, map, refl, rules, string_bytes, subst, sym, take, take-append-drop, true, ℕ, ◌∙◌, ◌∷◌, ◌≡◌, ◌≤◌, ◌⊎◌}
pub use Rattle.std.proofs.lemmas.List.Elements.{All-cons, All-contains, All-head, All-map, All-nil, All-tail, All-take}
pub use Rattle.std.proofs.lemmas.List.{append-nil, take_all}
pub use Rattle.std.specs.Io.KnownBytes.{Appends}
pub use Rattle.std.specs.List.{AllZip, concat}
pub use Rattle.std.specs.Prelude.{Bool, IfErr, IfOk, IsErrAnd, Result, option_map, slice_get, slice_index_or}
pub use Rattle.arrayvec.specs.ArrayVec.{ArrayVec}
pub use Rattle.olr_app.specs.Accepting.{Accepts, IsReferenceOf, IsStart, OneOutcome, ReportsRefusal}
pub use Rattle.olr_app.specs.Answer.{IsAnswer, IsAnswerOf, IsAnswerOfMany, IsAnswerOn, IsAnswerOnMap, IsFault, IsFaultOfMany, IsFaultOnMap, IsMapOfFiles, IsOutput, IsReason}
pub use Rattle.olr_app.specs.Common.{Extras}
pub use Rattle.olr_app.specs.Listing.{IsListingAsAsked, IsListingIn, candidate_row, candidates_array, listing_object, point_listing}
pub use Rattle.olr_app.specs.Matching.{AreLayers, AreMatchings, ArePages, ArePagesAsked, ArePagesIn, AreTextsOfPages, IsMarkOf, IsPagesText, IsPrinted, IsStartHere, OnLayers, OnStart, key_of, values_of}
pub use Rattle.olr_app.specs.Page.{IsTextOfPage}
pub use Rattle.olr_app.specs.Stages.{AndThen, IsStageFault}
pub use Rattle.olr_app.specs.Writing.{Hands, HasStopped, IsWritten, no_call, one_call}
pub use Rattle.olr_app.specs.declared.accepting.Accepted.{Accepted}
pub use Rattle.olr_binary.specs.Outcome.{IsOutcome}
pub use Rattle.olr_binary.specs.declared.reference.Reference.{Reference}
pub use Rattle.olr_candidates.specs.Points.{AreLists, lists_of}
pub use Rattle.olr_candidates.specs.declared.candidate.Candidate.{Candidate}
pub use Rattle.olr_candidates.specs.declared.tolerances.Tolerances.{Tolerances}
pub use Rattle.olr_keys.specs.Answers.{AreAnswers}
pub use Rattle.olr_keys.specs.CursorLaws.{OneCursor}
pub use Rattle.olr_keys.specs.Finder.{IsPosition}
pub use Rattle.olr_keys.specs.Key.{KeyValue}
pub use Rattle.olr_keys.specs.Matching.{IsKey}
pub use Rattle.olr_keys.specs.Page.{IsPageAfter, IsRestAfter, PageValue}
pub use Rattle.olr_keys.specs.Table.{Penalties}
pub use Rattle.olr_keys.specs.declared.cursor.CursorRead.{CursorRead}
pub use Rattle.olr_keys.specs.declared.mark.Mark.{Mark}
pub use Rattle.olr_keys.specs.declared.pages.Page.{Page}
pub use Rattle.olr_matching.specs.Layers.{LayersValue}
pub use Rattle.olr_matching.specs.Matched.{IsMatchedBy}
pub use Rattle.olr_matching.specs.declared.matched.Matched.{Matched}
pub use Rattle.olr_records.specs.declared.file.File.TheVariants.{Bans, Lines, Nodes}
pub use Rattle.olr_report.specs.Entries.{AreEntriesAt, AreEntriesOf, CanBeShown, Entry, IsEntryAt, IsEntryOf, keys_of}
pub use Rattle.olr_request.specs.Fault.{fault_of, fault_of_map}
pub use Rattle.olr_request.specs.Request.{ReadsMap, at_bytes, cursor_of, text_of}
pub use Rattle.olr_request.specs.declared.fault.Fault.TheVariants.{BadConfidence, BadCursor, CursorNotHere, CursorOfOther, NoMemory, TooManyCandidates, WriteFailed}
pub use Rattle.olr_request.specs.declared.fault.Fault.{Fault}
pub use Rattle.olr_request.specs.declared.request.Format.{Format}
pub use Rattle.olr_request.specs.declared.request.MatchRequest.{MatchRequest}
pub use Rattle.olr_request.specs.declared.request.Pages.TheVariants.{One}
pub use Rattle.olr_request.specs.declared.request.Pages.{Pages}
pub use Rattle.olr_request.specs.declared.request.Request.TheVariants.{Candidates, Match, Places, Show}
pub use Rattle.olr_request.specs.declared.request.Request.{Request}
pub use Rattle.olr_road.specs.RoadMap.{RoadMap}
pub use Rattle.olr_text.specs.JsonValues.{IsJsonLine, array_of}
pub use Rattle.serde_json.specs.View.{items_of}
