-- What one run prints: a page of the matchings that the inputs determine.
use Rattle.olr_app_laws.proofs.Common.{IsOutcome, Reference, IsFingerprint, AreAnswers, KeyValue, IsPageAfter, PageValue, CursorRead, Mark, RoadMap, LayersValue, IsStart, IsOutput, OneOutcome, IsTextOfPage, key_of, bytes_of, Accepted, Joinable, format_of, MatchRequest, One, Match, ◌≡◌, ℕ, ◌≤◌, List, Option, None, Some, Ok, true, refl, sym, ap, ◌∙◌, subst, arith, Laws, AreSame, Inputs, IsRunAt, Matchings, Names, Run, files_of, request_of, on_map, same_ok}

-- ---- the inputs determine the matchings

pub same_reference : {text : List ℕ} {one other : Reference} → OneOutcome
    → IsOutcome text (Ok one) → IsOutcome text (Ok other) → one ≡ other
same_reference {text} {one} {other} law is again = same_ok (law text (Ok one) (Ok other) is again)

pub one_matchings : Laws → (inputs : Inputs) (a b : Matchings inputs) → AreSame a b
one_matchings laws inputs a b =
    let road = laws.map _ _ _ _ _ a.is_map b.is_map in
    let layers = laws.layers b.road a.layers b.layers (rw (sym road) a.are_layers) b.are_layers
    (same_reference laws.outcome a.is_reference b.is_reference)
    (a.are_tolerances ∙ sym b.are_tolerances) in
    let of_layers : AreAnswers b.layers.penalties a.keys = rw (sym layers) a.are_keys in
    record { road = road; layers = layers; keys = laws.list _ _ _ of_layers b.are_keys }

-- what the inputs determine, as one value
pub record Facts : Type 0 where
  pub road : RoadMap
  pub layers : LayersValue
  pub keys : List KeyValue

abbrev pub facts_of : {inputs : Inputs} → Matchings inputs → Facts
facts_of {inputs} all = record { road = all.road; layers = all.layers; keys = all.keys }

pub one_facts : Laws → (inputs : Inputs) (a b : Matchings inputs) → facts_of a ≡ facts_of b
one_facts laws inputs a b =
    let same = one_matchings laws inputs a b in rw (same.road, same.layers, same.keys) refl

-- ---- a page of the matchings

-- the page after the matching that a cursor names, or the first page, and its text
pub record PrintsPage (format : Joinable) (inputs : Inputs) (facts : Facts)
    (cursor : Option (List ℕ)) (output : List ℕ) : Type 0 where
  pub named : Option KeyValue
  pub names : Names cursor named
  pub size : ℕ
  pub at_least : 1 ≤ size
  pub page : PageValue
  pub is_page : IsPageAfter facts.keys named size page
  pub mark : Mark
  pub marked : page.more ≡ true → IsFingerprint inputs.text inputs.tolerances facts.road mark
  pub is_text : IsTextOfPage inputs.extras (format_of format) facts.road facts.layers (Some mark)
      page output

-- ---- the stages of an answer

-- where a run begins, it begins at the cursor of its request
start_names : (cursor : Option (List ℕ)) (start : Option CursorRead) → IsStart cursor (Ok start)
    → Names cursor (key_of start)
start_names None start is = ap key_of is
start_names (Some text) start is = (is.0, ap key_of is.1, is.2)

-- ---- a run

-- the matchings of the inputs, and the page of them that a run prints
record Printed (format : Joinable) (inputs : Inputs) (cursor : Option (List ℕ)) (output : List ℕ)
    : Type 0 where
  all : Matchings inputs
  page : PrintsPage format inputs (facts_of all) cursor output

prints : (format : Joinable) (inputs : Inputs) (cursor : Option (List ℕ)) (run : Run format)
    → IsRunAt inputs cursor run → Printed format inputs cursor run.output
prints format inputs cursor run is =
    let asks = is.asks in
    let asked : MatchRequest = request_of inputs asks.text asks.size (One asks.begins) (format_of format) in
    let output : IsOutput (files_of inputs) (Match asked) run.output =
    subst (λ request. IsOutput (files_of inputs) request run.output) asks.request_is is.writes in
    let accepted : Accepted = output.0 in
    let on = on_map true asked asks.begins accepted output.2.0 run.output refl output.2.2 in
    record {
      all = record {
        road = output.2.0;
        layers = on.layers;
        keys = on.keys;
        is_map = output.2.1;
        is_reference = subst (λ text. IsOutcome text (Ok on.layers.reference))
            asks.text_is (subst (λ reference. IsOutcome asks.text.now (Ok reference))
            (sym on.reference_is) output.1.0);
        are_tolerances = on.are_tolerances;
        are_layers = on.are_layers;
        are_keys = on.are_keys;
      };
      page = record {
        named = key_of accepted.start;
        names = subst (λ at. Names at (key_of accepted.start)) asks.cursor_is
            (start_names (bytes_of asks.begins) accepted.start output.1.1);
        size = asks.size;
        at_least = asks.at_least;
        page = on.page;
        is_page = on.is_page;
        mark = on.is_mark.0;
        marked = λ more. subst (λ text.
            IsFingerprint text inputs.tolerances output.2.0 on.is_mark.0) asks.text_is
            (on.is_mark.2 on.page (0, omega arith, refl) more);
        is_text = subst (λ mark.
            IsTextOfPage inputs.extras (format_of format) output.2.0 on.layers mark on.page run.output)
            on.is_mark.1 on.is_text;
      };
    }

-- the matchings of a run's inputs
pub matchings_of_run : {format : Joinable} {inputs : Inputs} {cursor : Option (List ℕ)}
    {run : Run format} → IsRunAt inputs cursor run → Matchings inputs
matchings_of_run {format} {inputs} {cursor} {run} is = (prints _ _ _ _ is).all

-- a run prints a page of the matchings of its inputs
pub run_prints : Laws → {format : Joinable} {inputs : Inputs} (all : Matchings inputs)
    {cursor : Option (List ℕ)} {run : Run format} → IsRunAt inputs cursor run
    → PrintsPage format inputs (facts_of all) cursor run.output
run_prints laws {format} {inputs} all {cursor} {run} is =
    let printed = prints _ _ _ _ is in
    subst (λ facts. PrintsPage format inputs facts cursor run.output)
    (one_facts laws inputs printed.all all) printed.page
