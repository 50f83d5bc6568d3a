-- The stages of an answer after the map, where one page of matchings is asked for.
use Rattle.olr_app.proofs.Common.{AreAnswers, KeyValue, IsPageAfter, PageValue, Mark, RoadMap, LayersValue, AreMatchings, ArePagesAsked, IsTextOfPage, key_of, Accepted, Format, MatchRequest, One, ◌≡◌, ℕ, List, [], ◌∷◌, Option, Ok, Bor, subst, AllZip, concat, Bool, append-nil, IsMarkOf}
use Rattle.olr_app.proofs.Common.{AreEntriesAt, ArePagesIn, Extras}
use Rattle.olr_matching.specs.Layers.{AreLayersOn}
use Rattle.olr_request.specs.declared.request.Format.TheVariants.{GeoJson, Json, Text}

-- one page has one text
page_text : {extras : Extras} {format : Format} {road : RoadMap} {layers : LayersValue} {mark : Option Mark}
    (page : PageValue) (texts : List (List ℕ))
    → AllZip (IsTextOfPage extras format road layers mark) (page ∷ []) texts
    → IsTextOfPage extras format road layers mark page (concat texts)
page_text page [] each = absurd each
page_text page (text ∷ []) each = rw (append-nil text) each.0
page_text page (text ∷ other ∷ texts) each = absurd each.1

-- in each format
pub of_one_page : (extras : Extras) (format : Format) (road : RoadMap) (layers : LayersValue)
    (mark : Option Mark) (page : PageValue) (output : List ℕ)
    → ArePagesIn format extras road layers mark (page ∷ []) output
    → IsTextOfPage extras format road layers mark page output
of_one_page extras Text road layers mark page output is =
    rw is.whole (page_text page is.texts is.each)
of_one_page extras Json road layers mark page output is =
    rw is.whole (page_text page is.texts is.each)
of_one_page extras GeoJson road layers mark page output is = record {
  entries = is.entries;
  are = subst (λ keys. AreEntriesAt road layers keys is.entries) (append-nil page.keys) is.are;
  text_is = is.text_is;
}

-- the stages after the map, of a request for one page
pub record OnMap (marks : Bool) (asked : MatchRequest) (accepted : Accepted) (road : RoadMap)
    (output : List ℕ) : Type 0 where
  pub layers : LayersValue
  pub are_layers : AreLayersOn road layers
  pub reference_is : layers.reference ≡ accepted.reference
  pub are_tolerances : layers.tolerances ≡ asked.tolerances
  pub keys : List KeyValue
  pub are_keys : AreAnswers layers.penalties keys
  pub page : PageValue
  pub is_page : IsPageAfter keys (key_of accepted.start) asked.size page
  pub mark : Option Mark
  pub is_mark : IsMarkOf marks asked.text.now asked.tolerances road (page ∷ []) mark
  pub is_text : IsTextOfPage asked.extras asked.format road layers mark page output

pub on_map : (marks : Bool) (asked : MatchRequest) (begins : Option (Bor (List ℕ)))
    (accepted : Accepted) (road : RoadMap) (output : List ℕ) → asked.pages ≡ One begins
    → AreMatchings marks asked accepted road (Ok output) → OnMap marks asked accepted road output
on_map marks asked begins accepted road output one is =
    let answers = is.2.2.1.0 in
    let pages = subst (λ pages.
    ArePagesAsked answers asked.size pages (key_of is.0) is.2.2.0) one is.2.2.1.2 in
    let printed = is.2.2.2 in
    record {
      layers = is.2.0;
      are_layers = is.2.1.0;
      reference_is = is.2.1.1;
      are_tolerances = is.2.1.2;
      keys = answers;
      are_keys = is.2.2.1.1;
      page = pages.0;
      is_page = subst (λ at. IsPageAfter answers (key_of at) asked.size
          pages.0)
          is.1.0 pages.2;
      mark = printed.mark;
      is_mark = subst (λ l.
          IsMarkOf marks asked.text.now asked.tolerances road l printed.mark) pages.1
          printed.is_mark;
      is_text = of_one_page asked.extras asked.format road is.2.0 printed.mark pages.0 output
          (subst (λ l. ArePagesIn asked.format asked.extras road is.2.0 printed.mark l output)
          pages.1 printed.text_is);
    }
