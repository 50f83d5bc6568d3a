-- What a text asks for with the file of a confidence is one thing, since its words ask for one thing.
use Rattle.olr_app_laws.proofs.Common.{◌≡◌, List, None, Ok, Err, Option, Result, Some, refl, sym, ap, subst, option_map, Fault, Candidates, Match, Places, Show, Why, ℕ}
use Rattle.olr_app_laws.specs.RecordLaws.{OneRequest}
use Rattle.olr_batch.specs.Answers.{IsAsked, asked_with_confidence}
use Rattle.olr_request.specs.Request.{query_with_confidence}
use Rattle.olr_request.specs.declared.confidence_file.ConfidenceFile.{ConfidenceFile}
use Rattle.olr_request.specs.declared.fault.Fault.TheVariants as fault
use Rattle.olr_request.specs.declared.request.Query.{Query}
use Rattle.olr_request.specs.declared.request.Query.TheVariants.{Legs, Lines, Reference}
use Rattle.olr_words.specs.OneRequest.{AreEqual, StateTheSame, placeless_query, stated}
use Rattle.olr_words.specs.declared.asked.Records.TheVariants.{Requests}
use Rattle.olr_words.specs.declared.record.RecordFault.{RecordFault}
use Rattle.olr_words.specs.declared.record.RecordFault.TheVariants as record_fault

module _ (confidence : Option ConfidenceFile) where
  -- wherever its texts lie, the same is asked with the file
  of_places : (query : Query) → placeless_query (query_with_confidence confidence query)
      ≡ query_with_confidence confidence (placeless_query query)
  of_places (Reference (Show text format)) = refl
  of_places (Reference (Candidates text tolerances extras format)) = refl
  of_places (Reference (Match asked)) = refl
  of_places (Reference (Places asked)) = refl
  of_places (Reference (Why asked)) = refl
  of_places (Legs asked) = refl
  of_places (Lines asked) = refl

  -- what is stated with the file, by what is stated without it
  abbrev with_file : Result Query Fault → Result Query Fault
  with_file (Ok query) = Ok (query_with_confidence confidence query)
  with_file (Err why) = Err why

  stated_with : (asked : Result Query RecordFault)
      → stated (asked_with_confidence confidence asked)
      ≡ option_map (option_map with_file) (stated asked)
  stated_with (Ok query) =
      ap (λ (q : Query). Some (Some (Ok q))) (of_places query)
  stated_with (Err (record_fault.Words line)) = refl
  stated_with (Err (record_fault.Fault fault.NoMemory)) = refl
  stated_with (Err (record_fault.Fault _)) = refl

  equal_with : (s t : Option (Option (Result Query Fault))) → AreEqual s t
      → AreEqual (option_map (option_map with_file) s) (option_map (option_map with_file) t)
  equal_with None t same = tt
  equal_with (Some s) None same = tt
  equal_with (Some s) (Some t) same = ap (option_map with_file) same

  same_with : (one other : Result Query RecordFault) → StateTheSame one other
      → StateTheSame (asked_with_confidence confidence one) (asked_with_confidence confidence other)
  same_with one other same =
      rw (stated_with one, stated_with other) (equal_with (stated one) (stated other) same)

-- the words of a text ask for one thing with the file, too
pub one_asked : OneRequest → (confidence : Option ConfidenceFile) (text : List ℕ)
    (one other : Result Query RecordFault) → IsAsked (Requests confidence) text one
    → IsAsked (Requests confidence) text other → StateTheSame one other
one_asked law confidence text one other is its =
    subst (λ (r : Result Query RecordFault). StateTheSame r other) (sym is.2)
    (subst (λ (r : Result Query RecordFault).
    StateTheSame (asked_with_confidence confidence is.0) r) (sym its.2)
    (same_with confidence is.0 its.0 (law text is.0 its.0 is.1 its.1)))
