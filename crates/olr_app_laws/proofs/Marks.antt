-- The answer of one of many requests is that of a run, but for its marks.
use Rattle.olr_app_laws.proofs.Common.{arith, RoadMap, IsSoundMap, Accepted, Fault, Accepts, IsAnswerOf, IsAnswerOn, IsMapOfFiles, IsPageAsAsked, IsPageTextWith, IsTextOfPage, AreAnswers, Entry, KeyValue, LayersValue, Mark, Bool, IsPageAfter, next_after, key_of, AreMatchings, AndThen, MatchRequest, Json, One, Request, Candidates, Match, Places, Show, ◌≡◌, ℕ, true, false, List, Option, None, Some, Ok, Err, Bor, refl, sym, subst, ◌∙◌, inl, inr, Result, Laws, IsMapOf, Texts, known, FaultIsOfRun, IsSameOutput, OneAnswerOfMany, OutputIsOfRun, ShowsSame, ReadsMap, Why, accepted_once, on_map, first_then, same_ok, text_of, cursor_of}
use Rattle.olr_app.proofs.AnswerOf.{answer_of_files}
use Rattle.olr_app_laws.proofs.OneAnswer.{detailed_once, on_map_once}
use Rattle.olr_app.specs.Page.{detailed_features_of, features_of}
use Rattle.olr_app_laws.proofs.Common.{Extras, Format, GeoJson, Text, shown_for}
use Rattle.olr_app_laws.specs.AnswerLaws.{IsSameCollection, IsSamePageAsAsked}

-- a fault comes before any mark
same_fault : (request : Request) (accepted : Accepted) (road : RoadMap) (fault : Fault)
    → IsAnswerOn true request accepted road (Err fault)
    ≡ IsAnswerOn false request accepted road (Err fault)
same_fault (Show text format) accepted road fault = refl
same_fault (Candidates text tolerances extras format) accepted road fault = refl
same_fault (Match asked) accepted road fault = refl
same_fault (Places asked) accepted road fault = refl
same_fault (Why asked) accepted road fault = refl

-- a request that reads a map is answered on that of the files
on_files : (texts : Texts) (request : Request) (accepted : Accepted)
    (answer : Result (List ℕ) Fault) → ReadsMap request → IsAnswerOf texts request accepted answer
    → AndThen (IsMapOfFiles texts) (IsAnswerOn true request accepted) answer
on_files texts (Show text format) accepted answer reads is = absurd reads
on_files texts other accepted answer reads is = is

module _ (laws : Laws) (extras : Extras) (road : RoadMap) (layers : LayersValue)
    (entries : List Entry) (next : Option KeyValue) (mark : Mark) (text again : List ℕ) where
  -- texts of a page of the same matchings, by two marks, show the same page
  json_alike : (detail : Bool)
      → IsPageAsAsked detail extras Json road layers entries next (Some mark) text
      → IsPageAsAsked detail extras Json road layers entries next None again
      → IsSamePageAsAsked detail (shown_for extras road layers.reference) (Some mark) None text again
  json_alike false is its =
      record { entries = entries; next = next; text_is = is; again_is = its }
  json_alike true is its =
      let all = detailed_once laws layers.tolerances layers.reference road is.all its.all
      (is.are.entries_are ∙ sym its.are.entries_are) is.are.each its.are.each in
      record {
        all = its.all;
        next = next;
        text_is = subst (λ list. IsPageTextWith extras road layers.reference Json list next
            (Some mark) text) all is.text_is;
        again_is = its.text_is;
      }

  geojson_alike : (detail : Bool)
      → IsPageAsAsked detail extras GeoJson road layers entries next (Some mark) text
      → IsPageAsAsked detail extras GeoJson road layers entries next None again
      → IsSameCollection (Some mark) None text again
  geojson_alike false is its = record {
    features = features_of extras road layers.reference entries;
    next = next;
    text_is = is;
    again_is = its;
  }
  geojson_alike true is its =
      let all = detailed_once laws layers.tolerances layers.reference road is.all its.all
      (is.are.entries_are ∙ sym its.are.entries_are) is.are.each its.are.each in
      record {
        features = detailed_features_of extras road layers.reference its.all;
        next = next;
        text_is = subst (λ list. IsPageTextWith extras road layers.reference GeoJson list next
            (Some mark) text) all is.text_is;
        again_is = its.text_is;
      }

  shown_alike : (format : Format)
      → IsPageAsAsked extras.detail extras format road layers entries next (Some mark) text
      → IsPageAsAsked extras.detail extras format road layers entries next None again
      → ShowsSame format extras road text again
  shown_alike Text is its = tt
  shown_alike Json is its = (mark, layers.reference, json_alike extras.detail is its)
  shown_alike GeoJson is its = (mark, geojson_alike extras.detail is its)

module _ (laws : Laws) (road : RoadMap) (sound : IsSoundMap road) where
  -- a page with a mark and one without show the same
  same_page : (asked : MatchRequest) (accepted : Accepted) (begins : Option (Bor (List ℕ)))
      (output answer : List ℕ) → asked.pages ≡ One begins
      → AreMatchings true asked accepted road (Ok output)
      → AreMatchings false asked accepted road (Ok answer)
      → ShowsSame asked.format asked.extras road output answer
  same_page asked accepted begins output answer one is its =
      let on = on_map true asked begins accepted road output one is in
      let other = on_map false asked begins accepted road answer one its in
      let extras = asked.extras in
      let format = asked.format in
      let layers : other.layers ≡ on.layers = laws.layers _ _ _ other.are_layers on.are_layers
      (other.reference_is ∙ sym on.reference_is) (other.are_tolerances ∙ sym on.are_tolerances) in
      let page : other.page ≡ on.page = laws.page _ _ _ _ _ _ on.are_keys (subst (λ k.
      IsPageAfter k (key_of accepted.start) asked.size other.page)
      (laws.list _ _ _ (subst (λ l. AreAnswers l.penalties other.keys) layers other.are_keys)
      on.are_keys) other.is_page) on.is_page in
      let shown : IsTextOfPage extras format road on.layers (Some on.is_mark.0) on.page output =
      subst (λ m. IsTextOfPage extras format road on.layers m on.page output) on.is_mark.1
      on.is_text in
      let bare : IsTextOfPage extras format road on.layers None on.page answer =
      subst (λ p. IsTextOfPage extras format road on.layers None p answer) page
      (subst (λ l. IsTextOfPage extras format road l None other.page answer) layers
      (subst (λ m. IsTextOfPage extras format road other.layers m other.page answer)
      other.is_mark other.is_text)) in
      let entries = laws.entries road on.layers sound on.page.keys shown.entries bare.entries
      shown.are bare.are in
      let next = next_after on.page in
      shown_alike laws extras road on.layers bare.entries next on.is_mark.0 output answer format
      (subst (λ list. IsPageAsAsked extras.detail extras format road on.layers list next
      (Some on.is_mark.0) output) entries shown.text_is) bare.text_is

  same_output : (request : Request) (accepted : Accepted) (output answer : List ℕ)
      → Accepts request (Ok accepted) → IsAnswerOn true request accepted road (Ok output)
      → IsAnswerOn false request accepted road (Ok answer) → IsSameOutput request road output answer
  same_output (Match asked) accepted output answer accepts is its =
      λ begins one. same_page asked accepted begins output answer one is its
  same_output (Show text format) accepted output answer accepts is its =
      grind (arith, same_ok, on_map_once)
  same_output (Candidates text tolerances extras format) accepted output answer accepts is its =
      same_ok (on_map_once laws true (Candidates text tolerances extras format) accepted road accepts
      sound _ _ its is)
  same_output (Places asked) accepted output answer accepts is its = same_ok
      (on_map_once laws true (Places asked) accepted road accepts sound _ _ its is)
  same_output (Why asked) accepted output answer accepts is its = same_ok
      (on_map_once laws true (Why asked) accepted road accepts sound _ _ its is)

pub output_is_of_run : Laws → OutputIsOfRun
output_is_of_run laws nodes lines bans road request output answer is_map reads is its =
    let on = on_files _ _ _ _ reads is.2 in
    same_output laws road is_map.sound request is.0 output answer is.1
    (subst (λ r. IsAnswerOn true request is.0 r (Ok output))
    (laws.map nodes lines bans on.0 road on.1 is_map) on.2)
    (subst (λ a. IsAnswerOn false request a road (Ok answer))
    (same_ok (accepted_once laws.outcome laws.cursor (text_of request) (cursor_of request) (Ok its.0) (Ok is.0) its.1 is.1))
    its.2)

module _ (laws : Laws) (nodes lines bans : List ℕ) (road : RoadMap)
    (is_map : IsMapOf nodes lines bans road) (request : Request) (fault : Fault)
    (reads : ReadsMap request) where
  abbrev OfRun : Accepted → Type 0
  OfRun accepted = IsAnswerOf (known nodes lines bans) request accepted (Err fault)

  from_run : (accepted : Accepted) → OfRun accepted
      → IsAnswerOn false request accepted road (Err fault)
  from_run accepted is = elim (on_files _ _ _ _ reads is) [
    | inl files ↦ absurd (laws.no_map_and_fault _ _ _ road files.0 is_map (files.1, files.2))
    | inr on ↦ rw (← (same_fault _ _ _ _))
        (subst (λ r. IsAnswerOn true request accepted r (Err fault))
        (laws.map nodes lines bans on.0 road on.1 is_map) on.2)
  ]

  to_run : (accepted : Accepted) → IsAnswerOn false request accepted road (Err fault)
      → OfRun accepted
  to_run accepted is = grind (arith, answer_of_files, same_fault)

pub fault_is_of_run : Laws → FaultIsOfRun
fault_is_of_run laws nodes lines bans road request fault is_map reads = (
  λ is. elim is [
    | inl refused ↦ inl refused
    | inr on ↦ inr (
      on.0,
      on.1,
      from_run laws nodes lines bans road is_map request fault reads on.0 on.2,
    )
  ],
  λ is. elim is [
    | inl refused ↦ inl refused
    | inr on ↦ inr (
      on.0,
      on.1,
      to_run laws nodes lines bans road is_map request fault reads on.0 on.2,
    )
  ],
)

pub one_answer_of_many : Laws → OneAnswerOfMany
one_answer_of_many laws road request sound = first_then _ _
    (accepted_once laws.outcome laws.cursor (text_of request) (cursor_of request))
    (λ accepted is. on_map_once laws false request accepted road is sound)
