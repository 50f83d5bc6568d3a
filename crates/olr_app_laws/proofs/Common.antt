-- The names that most proofs of this crate speak of, passed on from one place.
pub use Rattle.std.proofs.Common.{◌+◌, ◌++◌, ◌<◌, Bool, Bor, Err, List, None, Ok, Option, Some, [], ◌^◌, ap, append_assoc, arith, codes, drop, false, inl, inr, length, length-append, length-take, refl, subst, suc, sym, true, ℕ, ◌∙◌, ◌∷◌, ◌≡◌, ◌≤◌}
pub use Rattle.std.proofs.lemmas.List.Elements.{All-append, All-cons, All-contains, All-head, All-nil, All-tail, All-weaker, Contains-append_left, Contains-append_right}
pub use Rattle.std.proofs.lemmas.List.{append-nil, append_cancel_left, append_cancel_right, length-drop, map-append, take-append-drop, take_all}
pub use Rattle.std.proofs.lemmas.Option.{none-some, same_Some}
pub use Rattle.std.specs.List.{AllZip, concat, list_all}
pub use Rattle.std.specs.Prelude.{All, AllPairs, Contains, IfSome, Result, decimal, eqb, if◌then◌else◌, not, option_map, ◌≢◌}
pub use Rattle.olr_app.proofs.Accepts.{accepted_once}
pub use Rattle.olr_app.proofs.OnePage.{on_map}
pub use Rattle.olr_app.proofs.Single.{IsSingle, first_then, no_fault_once, no_ok_and_err, same_err, same_ok}
pub use Rattle.olr_app.specs.Accepting.{IsStart, Accepts, OneOutcome}
pub use Rattle.olr_app.specs.Answer.{IsOutput, IsAnswerOf, IsAnswerOn, IsMapOfFiles, IsAnswer}
pub use Rattle.olr_app.specs.Matching.{AreLayers, IsOfInputs, key_of, AreMatchings, ArePagesAsked, ArePages, IsPrinted, IsStartHere, OnLayers, OnStart}
pub use Rattle.olr_app.specs.Page.{IsPageAsAsked, IsPageIn, IsPageTextWith, IsTextOfPage}
pub use Rattle.olr_app.specs.Stages.{AndThen}
pub use Rattle.olr_app.specs.declared.accepting.Accepted.{Accepted}
pub use Rattle.olr_app_laws.specs.AnswerLaws.{FaultIsOfRun, IsSameOutput, OneAnswerOfMany, OutputIsOfRun, ShowsSame}
pub use Rattle.olr_app_laws.specs.Headline.{AllAsOne, AllPages, AreSame, AreShown, EachHasCursor, FollowEachOther, GoOn, GoesOnHere, HasSize, Headline, Inputs, IsCursorHere, IsRunAt, Matchings, Names, NoneRefused, RefusedByName, Run, RunsEnd, SizesAgree, files_of, joined, joined_outputs, request_of}
pub use Rattle.olr_app.specs.Common.{Extras}
pub use Rattle.olr_app.specs.Page.{shown_for}
pub use Rattle.olr_app_laws.specs.HeadlineOutputs.{ArePartsOf, AreRows, IsLastRow, IsObject, IsRow, Joinable, Part, Shows, as_json, as_text, detailed_parts_of, format_of, last_row_of, next_of, parts_of}
pub use Rattle.olr_app_laws.specs.Laws.{Laws}
pub use Rattle.olr_binary.specs.Outcome.{IsOutcome}
pub use Rattle.olr_binary.specs.declared.reference.Reference.{Reference}
pub use Rattle.olr_candidates.specs.Points.{AreLists}
pub use Rattle.olr_candidates.specs.declared.candidate.Candidate.{Candidate}
pub use Rattle.olr_candidates.specs.declared.tolerances.Tolerances.{Tolerances}
pub use Rattle.olr_fingerprint.specs.Fingerprint.{IsFingerprint}
pub use Rattle.olr_keys.proofs.Chains.{one_rest}
pub use Rattle.olr_keys.specs.Answers.{AreAnswers}
pub use Rattle.olr_keys.specs.Cursor.{IsCursorOf, IsMark, cursor_text, hexadecimal, key_text, ranks_text}
pub use Rattle.olr_keys.specs.CursorLaws.{OneCursor}
pub use Rattle.olr_keys.specs.Key.{IsBefore, IsInRange, IsRank, KeyValue}
pub use Rattle.olr_keys.specs.Matching.{IsKey}
pub use Rattle.olr_keys.specs.Page.{IsPageAfter, PageValue, last_of, IsRestAfter}
pub use Rattle.olr_keys.specs.Table.{Penalties}
pub use Rattle.olr_keys.specs.declared.cursor.CursorRead.{CursorRead}
pub use Rattle.olr_keys.specs.declared.mark.Mark.{Mark}
pub use Rattle.olr_map.specs.Files.{IsMapOf, Texts, known}
pub use Rattle.olr_matching.specs.Layers.{LayersValue}
pub use Rattle.olr_report.specs.Entries.{AreEntriesAt, Entry, IsEntryAt}
pub use Rattle.olr_report.specs.Json.{entry_object, next_value}
pub use Rattle.olr_report.specs.Text.{entries_rows, next_after}
pub use Rattle.olr_report.specs.TextRows.{end_row, entry_rows, leg_rows, location_rows, part_row, pieces_row, place_row, point_rows}
pub use Rattle.olr_request.specs.Fault.{fault_of_map, fault_of}
pub use Rattle.olr_request.specs.Request.{ReadsMap, at_bytes, bytes_of, cursor_in, cursor_of, text_of}
pub use Rattle.olr_request.specs.declared.fault.Fault.TheVariants.{TooManyCandidates}
pub use Rattle.olr_request.specs.declared.fault.Fault.{Fault}
pub use Rattle.olr_request.specs.declared.request.Format.TheVariants.{GeoJson, Json, Text}
pub use Rattle.olr_request.specs.declared.request.Format.{Format}
pub use Rattle.olr_request.specs.declared.request.MatchRequest.{MatchRequest}
pub use Rattle.olr_request.specs.declared.request.Pages.TheVariants.{One}
pub use Rattle.olr_request.specs.declared.request.Pages.{Pages}
pub use Rattle.olr_request.specs.declared.request.Request.TheVariants.{Candidates, Match, Places, Show, Why}
pub use Rattle.olr_request.specs.declared.request.Request.{Request}
pub use Rattle.olr_road.specs.RoadMap.{RoadMap, IsSoundMap}
pub use Rattle.serde_json.specs.Data.{Data, Items, array}
pub use Rattle.serde_json.specs.View.{items_of}
