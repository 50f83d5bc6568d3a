-- The cursors of the matchings of the inputs: no run that begins at one is refused.
use Rattle.olr_app_laws.proofs.Common.{arith, IsOutcome, IsFingerprint, IsKey, CursorRead, Mark, RoadMap, Accepts, IsStart, IsAnswer, IsAnswerOf, IsAnswerOn, IsMapOfFiles, AreLayers, AreMatchings, ArePages, IsOfInputs, IsPrinted, IsStartHere, OnLayers, OnStart, bytes_of, AndThen, Accepted, Fault, Format, MatchRequest, One, Match, inl, inr, ◌≡◌, ℕ, true, List, Option, None, Some, Ok, Err, Bor, refl, sym, ◌∙◌, subst, Contains, IfSome, Result, All-contains, Laws, IsMark, EachHasCursor, GoesOnHere, Inputs, IsCursorHere, Matchings, NoneRefused, files_of, request_of, no_ok_and_err}
use Rattle.olr_candidates.specs.Points.{IsFirstTooMany}
use Rattle.olr_app_laws.proofs.HeadlineChain.{next_of_run}
use Rattle.olr_app_laws.proofs.HeadlineRests.{next_within}
use Rattle.olr_app_laws.proofs.HeadlineRuns.{run_prints, same_reference}

-- ---- cursors

mark_of_inputs : Laws → (inputs : Inputs) (road : RoadMap) (mark : Option Mark)
    → IfSome mark (IsFingerprint inputs.text inputs.tolerances road) → IfSome mark IsMark
mark_of_inputs laws inputs road None marked = tt
mark_of_inputs laws inputs road (Some mark) marked = grind arith

pub each_has_cursor : Laws → EachHasCursor
each_has_cursor laws inputs all key mark there marked =
    let is : IsKey all.layers.penalties key =
    All-contains (IsKey all.layers.penalties) all.keys key all.are_keys.only there in (
      record { key = key; mark = mark },
      record {
        in_range = laws.in_range _ _ all.are_layers.table is;
        is_mark = mark_of_inputs laws inputs all.road mark marked;
        same = refl;
      },
      there,
      marked,
    )

pub goes_on_here : Laws → GoesOnHere
goes_on_here laws format inputs all cursor run following is shows =
    let prints = run_prints laws all is in
    let next = next_of_run laws all run prints following shows in (
      record { key = next.0; mark = Some prints.mark },
      next.3,
      next_within _ _ _ _ prints.is_page next.0 next.1,
      next.2,
    )

-- ---- stages without a fault

-- two stages have no fault where neither has
no_fault : {A B : Type 0} (First : Result A Fault → Type 0) (Next : A → Result B Fault → Type 0)
    (fault : Fault) → (First (Err fault) → ⊥)
    → ((found : A) → First (Ok found) → Next found (Err fault) → ⊥) → AndThen First Next (Err fault)
    → ⊥
no_fault First Next fault first next is = grind arith

module _ (laws : Laws) (inputs : Inputs) (all : Matchings inputs) (fault : Fault) where
  -- what is read of a cursor of the inputs
  abbrev IsReadHere : Option CursorRead → Type 0
  IsReadHere start = IfSome start (λ read.
      Contains all.keys read.key × IsOfInputs inputs.text inputs.tolerances all.road read)

  moved : {start other : Option CursorRead} → start ≡ other → IsReadHere start → IsReadHere other
  moved same is = subst (λ at. IsReadHere at) same is

  read_here : (cursor : Option (List ℕ)) (start : Option CursorRead)
      → IsCursorHere inputs all cursor → IsStart cursor (Ok start) → IsReadHere start
  read_here None start here is = moved (sym is) tt
  read_here (Some text) start here is =
      let same = laws.cursor _ _ _ _ _ here.1 is.2 in
      let read_of : Option Mark → CursorRead = λ mark. record { key = is.0.key; mark = mark } in
      moved (sym is.1) (
        subst (λ key. Contains all.keys key) same.0 here.2,
        subst (λ mark.
            IsOfInputs inputs.text inputs.tolerances all.road (read_of mark)) same.1 here.3,
      )

  no_start_fault : (cursor : Option (List ℕ)) → IsCursorHere inputs all cursor
      → IsStart cursor (Err fault) → ⊥
  no_start_fault None here is = is
  no_start_fault (Some text) here is = is.1 here.0.key here.0.mark here.1

  module _ (text : Bor (List ℕ)) (text_is : text.now ≡ inputs.text) (size : ℕ)
      (begins : Option (Bor (List ℕ))) (format : Format) where
    asked : MatchRequest
    asked = request_of inputs text size (One begins) format

    -- ---- after the map

    -- the cursor is of these inputs
    no_start_here_fault : (start : Option CursorRead) → IsReadHere start
        → IsStartHere asked all.road start (Err fault) → ⊥
    unfolding asked
    no_start_here_fault start here is =
        let read : IsReadHere (Some is.1) = moved is.2 here in
        is.3 (subst (λ t. IsOfInputs t inputs.tolerances all.road is.1) (sym text_is) read.1)

    no_layers_fault : AreLayers inputs.tolerances all.layers.reference all.road (Err fault) → ⊥
    no_layers_fault is =
        let first : IsFirstTooMany all.layers.tolerances all.layers.reference all.road.lines is.0 =
        rw all.are_tolerances is.1 in
        laws.no_lists_and_too_many _ _ _ all.layers.candidates is.0 all.are_layers.lists
        first.too_many

    no_pages_fault : (start : Option CursorRead) → IsReadHere start
        → ArePages asked all.layers start (Err fault) → ⊥
    no_pages_fault start here is =
        let read : IsReadHere (Some is.1) = moved is.2 here in
        is.3 (All-contains (IsKey all.layers.penalties) all.keys is.1.key all.are_keys.only read.0)

    no_matchings_fault : (accepted : Accepted) → accepted.reference ≡ all.layers.reference
        → IsReadHere accepted.start → AreMatchings true asked accepted all.road (Err fault) → ⊥
    unfolding asked
    no_matchings_fault accepted same read = no_fault (IsStartHere asked all.road accepted.start)
        (OnStart true asked accepted.reference all.road) fault
        (no_start_here_fault accepted.start read)
        (λ here is_here. no_fault (AreLayers inputs.tolerances accepted.reference all.road)
        (OnLayers true asked here all.road) fault
        (λ is. no_layers_fault (subst (λ r.
        AreLayers inputs.tolerances r all.road (Err fault)) same is))
        (λ layers are_layers. no_fault (ArePages asked layers here)
        (IsPrinted true asked all.road layers) fault
        (λ is. no_pages_fault here (moved (sym is_here.0) read)
        (subst (λ l. ArePages asked l here (Err fault))
        (laws.layers all.road layers all.layers are_layers.0 all.are_layers (are_layers.1 ∙ same)
        (are_layers.2 ∙ sym all.are_tolerances)) is)) (λ list are_pages printed. printed)))

    -- ---- all stages

    no_answer_fault : IsCursorHere inputs all (bytes_of begins)
        → IsAnswer (files_of inputs) (Match asked) (Err fault) → ⊥
    unfolding asked
    no_answer_fault here =
        let outcome : IsOutcome text.now (Ok all.layers.reference) = rw text_is all.is_reference in
        no_fault (Accepts (Match asked)) (IsAnswerOf (files_of inputs) (Match asked)) fault
        (λ is. elim is [
          | inl its ↦ no_ok_and_err
              (laws.outcome text.now (Ok all.layers.reference) (Err its.0) outcome its.1)
          | inr its ↦ no_start_fault (bytes_of begins) here its.2
        ])
        (λ accepted is. no_fault (IsMapOfFiles (files_of inputs))
        (IsAnswerOn true (Match asked) accepted) fault
        (λ why. laws.no_map_and_fault _ _ _ all.road why.0 all.is_map (why.1, why.2))
        (λ road is_map ends. no_matchings_fault accepted (same_reference laws.outcome is.0 outcome)
        (read_here (bytes_of begins) accepted.start here is.1)
        (subst (λ r. AreMatchings true asked accepted r (Err fault))
        (laws.map _ _ _ _ _ is_map all.is_map) ends)))

pub none_refused : Laws → NoneRefused
unfolding asked
none_refused laws format inputs all cursor request fault here asks answer =
    no_answer_fault laws inputs all fault asks.text asks.text_is asks.size asks.begins format
    (rw asks.cursor_is here)
    (subst (λ r. IsAnswer (files_of inputs) r (Err fault)) asks.request_is answer)
