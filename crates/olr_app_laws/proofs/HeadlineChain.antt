-- Runs that follow each other show exactly the matchings after the cursor at which the first one
-- begins; those have one text, and such runs come to an end.
use Rattle.olr_app_laws.proofs.Common.{AreEntriesAt, RoadMap, IsSoundMap, OneCursor, IsInRange, KeyValue, IsRestAfter, IsFingerprint, LayersValue, next_after, Extras, Joinable, as_text, ◌≡◌, ℕ, List, [], ◌∷◌, ◌++◌, Option, None, Some, sym, ap, ◌∙◌, subst, ◌≤◌, length, drop, refl, length-append, arith, append-nil, map-append, length-drop, All-append, Laws, IsCursorOf, one_rest, Entry, IsEntryAt, AreShown, FollowEachOther, Headline, Inputs, Matchings, Names, Run, joined, SizesAgree, GoOn, RunsEnd, ArePartsOf, Bool, Part, Shows, detailed_parts_of, false, true}
use Rattle.olr_app_laws.proofs.HeadlineOutputs.{key_next, next_cursor, none_next, one_shown}
use Rattle.olr_app_laws.proofs.HeadlineOutputs.{ShowsPage, page_shows, parts_append}
use Rattle.olr_app_laws.proofs.OneAnswer.{detailed_once}
use Rattle.olr_app_laws.proofs.HeadlineRests.{next_in_range, next_more, page_and_rest, page_is_rest}
use Rattle.olr_app_laws.proofs.HeadlineRests.{left_after}
use Rattle.olr_app_laws.proofs.HeadlineRuns.{Facts, PrintsPage, facts_of, matchings_of_run, run_prints}

-- ---- keys in two parts

entries_append : {road : RoadMap} {layers : LayersValue} (keys keys' : List KeyValue)
    (entries entries' : List Entry) → AreEntriesAt road layers keys entries
    → AreEntriesAt road layers keys' entries'
    → AreEntriesAt road layers (keys ++ keys') (entries ++ entries')
entries_append {road} {layers} keys keys' entries entries' is is' = record {
  keys_are = rw (
    map-append (λ (entry : Entry). entry.key) entries entries',
    is.keys_are,
    is'.keys_are,
  ) refl;
  each = All-append (IsEntryAt road layers) entries entries' is.each is'.each;
}

shown_append : (extras : Extras) (format : Joinable) (road : RoadMap) (layers : LayersValue)
    (keys keys' : List KeyValue) (parts parts' : List (Part format))
    → AreShown extras format road layers keys parts → AreShown extras format road layers keys' parts'
    → AreShown extras format road layers (keys ++ keys') (parts ++ parts')
shown_append extras format road layers keys keys' parts parts' is is' = record {
  entries = is.entries ++ is'.entries;
  are = entries_append keys keys' is.entries is'.entries is.are is'.are;
  parts_are = parts_append extras.detail extras format road layers is.entries is'.entries parts parts'
      is.parts_are is'.parts_are;
}

-- ---- a cursor names one key

one_name : OneCursor → (cursor : Option (List ℕ)) (a b : Option KeyValue) → Names cursor a
    → Names cursor b → a ≡ b
one_name law None a b is is' = is ∙ sym is'
one_name law (Some cursor) a b is is' = is.1 ∙ ap Some (law _ _ _ _ _ is.2 is'.2).0 ∙ sym is'.1

-- ---- runs

-- what shows exactly the matchings after a cursor
record IsAfter (extras : Extras) (format : Joinable) (facts : Facts) (cursor : Option (List ℕ))
    (parts : List (Part format)) : Type 0 where
  named : Option KeyValue
  names : Names cursor named
  rest : List KeyValue
  is_rest : IsRestAfter facts.keys named rest
  shown : AreShown extras format facts.road facts.layers rest parts

module _ (laws : Laws) {format : Joinable} {inputs : Inputs} (all : Matchings inputs) where
  module _ {cursor : Option (List ℕ)} (run : Run format)
      (prints : PrintsPage format inputs (facts_of all) cursor run.output) where
    in_range : (key : KeyValue) → next_after prints.page ≡ Some key → IsInRange key
    in_range = next_in_range _ _ _ _ prints.is_page _ laws.in_range all.are_layers.table
        all.are_keys

    shows_page : ShowsPage inputs.extras.detail inputs.extras format all.road all.layers prints.is_text.entries
        (next_cursor (next_after prints.page) prints.mark) run.output
    shows_page = page_shows laws.json_reads inputs.extras.detail inputs.extras format all.road all.layers
        prints.is_text.entries (next_after prints.page) prints.mark run.output in_range
        prints.is_text.text_is

    module _ (next : Option (List ℕ)) (is : Shows format run.shown next run.output) where
      same_parts : (run.shown ≡ shows_page.parts)
          × (next ≡ next_cursor (next_after prints.page) prints.mark)
      same_parts = one_shown format _ _ _ _ run.output is shows_page.shows

      -- what the run shows is the keys of its page
      page_shown : AreShown inputs.extras format all.road all.layers prints.page.keys run.shown
      page_shown = record {
        entries = prints.is_text.entries;
        are = prints.is_text.are;
        parts_are = subst (λ p.
            ArePartsOf inputs.extras.detail inputs.extras format all.road all.layers prints.is_text.entries p)
            (sym same_parts.0) shows_page.are;
      }

    -- a run whose output says that no more follow
    last_run : Shows format run.shown None run.output
        → IsAfter inputs.extras format (facts_of all) cursor (run.shown ++ [])
    last_run is = record {
      named = prints.named;
      names = prints.names;
      rest = prints.page.keys;
      is_rest = page_is_rest _ _ _ _ prints.is_page prints.at_least
          (none_next (next_after prints.page) prints.mark (sym (same_parts None is).1));
      shown = rw (append-nil run.shown) (page_shown None is);
    }

    -- where its output goes on at a cursor, that is the cursor of the last key of the page, with
    -- the fingerprint of the inputs
    pub next_of_run : (following : List ℕ) → Shows format run.shown (Some following) run.output
        → (key : KeyValue) × (next_after prints.page ≡ Some key)
        × IsFingerprint inputs.text inputs.tolerances all.road prints.mark
        × IsCursorOf key (Some prints.mark) following
    next_of_run following is =
        let next = key_next (next_after prints.page) prints.mark following
        (sym (same_parts (Some following) is).1) in
        let marked = prints.marked (next_more _ prints.page.keys next.0 next.1) in (
          next.0,
          next.1,
          marked,
          record {
            in_range = in_range next.0 next.1;
            is_mark = laws.is_mark inputs.text inputs.tolerances all.road prints.mark marked;
            same = next.2;
          },
        )

    -- a run after which others follow, at the cursor at the end of its output
    one_more : (following : List ℕ) (parts : List (Part format))
        → Shows format run.shown (Some following) run.output
        → IsAfter inputs.extras format (facts_of all) (Some following) parts
        → IsAfter inputs.extras format (facts_of all) cursor (run.shown ++ parts)
    one_more following parts is later =
        let next = next_of_run following is in
        let names : Names (Some following) (Some next.0) =
        (record { key = next.0; mark = Some prints.mark }, refl, next.3) in
        let rest = subst (λ o. IsRestAfter all.keys o later.rest)
        (one_name laws.cursor (Some following) later.named (Some next.0) later.names names)
        later.is_rest in
        record {
          named = prints.named;
          names = prints.names;
          rest = prints.page.keys ++ later.rest;
          is_rest = page_and_rest _ _ _ _ prints.is_page next.0 later.rest all.are_keys.rise next.1
              rest;
          shown = shown_append inputs.extras format _ _ _ _ _ _ (page_shown (Some following) is)
              later.shown;
        }

  chain : (cursor : Option (List ℕ)) (runs : List (Run format))
      → FollowEachOther inputs cursor runs
      → IsAfter inputs.extras format (facts_of all) cursor (joined runs)
  chain cursor [] follow = absurd follow
  chain cursor (run ∷ []) follow = last_run run (run_prints laws all follow.0) follow.1
  chain cursor (run ∷ next ∷ runs) follow =
      one_more run (run_prints laws all follow.1) follow.0 (joined (next ∷ runs)) follow.2
      (chain (Some follow.0) (next ∷ runs) follow.3)

-- the inputs of runs that follow each other determine the matchings
matchings_of_runs : (format : Joinable) (inputs : Inputs) (cursor : Option (List ℕ))
    (runs : List (Run format)) → FollowEachOther inputs cursor runs → Matchings inputs
matchings_of_runs format inputs cursor [] follow = absurd follow
matchings_of_runs format inputs cursor (run ∷ []) follow = matchings_of_run follow.0
matchings_of_runs format inputs cursor (run ∷ next ∷ runs) follow = matchings_of_run follow.1

pub runs_join : Laws → Headline
runs_join laws format inputs cursor runs follow =
    let all = matchings_of_runs _ _ _ _ follow in
    let is = chain laws all cursor runs follow in
    record {
      all = all;
      named = is.named;
      names = is.names;
      rest = is.rest;
      is_rest = is.is_rest;
      shown = is.shown;
    }

module _ (laws : Laws) where
  -- ---- keys have one text

  parts_once : (detail : Bool) (extras : Extras) (road : RoadMap) (layers : LayersValue)
      (entries : List Entry) (a b : List ℕ)
      → ArePartsOf detail extras as_text road layers entries a
      → ArePartsOf detail extras as_text road layers entries b → a ≡ b
  parts_once false extras road layers entries a b is is' = is ∙ sym is'
  parts_once true extras road layers entries a b is is' = is.parts_are
      ∙ ap (detailed_parts_of extras road layers.reference as_text) (detailed_once laws layers.tolerances layers.reference road is.all is'.all
      (is.are.entries_are ∙ sym is'.are.entries_are) is.are.each is'.are.each) ∙ sym is'.parts_are

  text_once : (extras : Extras) (road : RoadMap) (sound : IsSoundMap road) (layers : LayersValue)
      (keys : List KeyValue) (a b : List ℕ) → AreShown extras as_text road layers keys a
      → AreShown extras as_text road layers keys b → a ≡ b
  text_once extras road sound layers keys a b is is' =
      let entries = laws.entries road layers sound keys is.entries is'.entries is.are is'.are in
      parts_once extras.detail extras road layers is'.entries a b
      (subst (λ list. ArePartsOf extras.detail extras as_text road layers list a) entries is.parts_are) is'.parts_are

  -- ---- the matchings after a cursor have one text

  pub sizes_agree : SizesAgree
  sizes_agree inputs cursor runs others follow follow' =
      let all = matchings_of_runs _ _ _ _ follow in
      let is = chain laws all cursor runs follow in
      let is' = chain laws all cursor others follow' in
      text_once inputs.extras all.road all.is_map.sound all.layers is.rest _ _ is.shown
      (rw (sym (one_rest _ _ all.are_keys.rise
      (subst (λ o. IsRestAfter all.keys o is'.rest)
      (one_name laws.cursor cursor is'.named is.named is'.names is.names) is'.is_rest) is.is_rest))
      is'.shown)

-- what comes after a position is no longer than the list
rest_at_most : (keys : List KeyValue) (after : Option KeyValue) (rest : List KeyValue)
    → IsRestAfter keys after rest → length rest ≤ length keys
rest_at_most keys None rest is = omega (arith, ap length is)
rest_at_most keys (Some after) rest is = grind (arith, length-append)

module _ (laws : Laws) {format : Joinable} {inputs : Inputs} (all : Matchings inputs) where
  -- each run takes at least one key
  fewer : (cursor : Option (List ℕ)) (named : Option KeyValue) (rest : List KeyValue)
      (runs : List (Run format)) → Names cursor named → IsRestAfter all.keys named rest
      → GoOn inputs cursor runs → length runs ≤ length rest
  fewer cursor named rest [] names is go = omega arith
  fewer cursor named rest (run ∷ runs) names is go =
      let prints = run_prints laws all go.1 in
      let next = next_of_run laws all run prints go.0 go.2 in
      let left : List KeyValue = drop prints.size prints.is_page.rest in
      let later : length runs ≤ length left = fewer (Some go.0) (Some next.0) left runs
      (record { key = next.0; mark = Some prints.mark }, refl, next.3)
      (left_after _ _ _ _ prints.is_page next.0 next.1) go.3 in
      omega (
        arith,
        later,
        prints.is_page.is_page.more.0 (next_more _ prints.page.keys next.0 next.1),
        prints.at_least,
        length-drop prints.size prints.is_page.rest,
        ap length (one_rest _ _ all.are_keys.rise is
            (subst (λ o. IsRestAfter all.keys o prints.is_page.rest)
            (one_name laws.cursor cursor prints.named named prints.names names)
            prints.is_page.is_rest)),
      )

  ends : (cursor : Option (List ℕ)) (runs : List (Run format)) → GoOn inputs cursor runs
      → length runs ≤ length all.keys
  ends cursor [] go = omega arith
  ends cursor (run ∷ runs) go =
      let prints = run_prints laws all go.1 in
      omega (
        arith,
        fewer cursor prints.named prints.is_page.rest (run ∷ runs) prints.names
            prints.is_page.is_rest go,
        rest_at_most _ _ _ prints.is_page.is_rest,
      )

pub runs_end : Laws → RunsEnd
runs_end laws format inputs all = ends laws all
