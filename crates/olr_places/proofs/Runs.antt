-- The longest run of neighbouring steps that aren't covered: as a number that is computed, and as a
-- run that is the longest one.
use Rattle.olr_places.proofs.Common.{stretch, Step, longest_run, ◌≡◌, ℕ, zero, suc, ◌+◌, ◌-◌, ◌<◌, ◌≤◌, Bool, true, false, List, [], ◌∷◌, ◌++◌, length, max, All, refl, sym, ap, ◌∙◌, inl, inr, arith, if◌then◌else◌, nat_le, append_assoc, cases_Bool, cases_lt, le-leb, lt-leb, length_push, All-nil, All-head, All-push, All-tail}
use Rattle.olr_report.proofs.StepLists.{length-stretch, stretch-add}

module _ (covered : Step → Bool) where
  abbrev Missing : Step → Type 0
  Missing step = covered step ≡ false

  abbrev Covered : Step → Type 0
  Covered step = covered step ≡ true

  -- ---- one step

  pub at_covered : (run : ℕ) (step : Step) (steps : List Step) → Covered step
      → longest_run covered run (step ∷ steps) ≡ max run (longest_run covered 0 steps)
  at_covered run step steps is = rw is refl

  pub at_missing : (run : ℕ) (step : Step) (steps : List Step) → Missing step
      → longest_run covered run (step ∷ steps) ≡ longest_run covered (run + 1) steps
  at_missing run step steps is = rw is refl

  -- ---- steps that are alike

  pub all_missing : (run : ℕ) (same rest : List Step) → All Missing same
      → longest_run covered run (same ++ rest) ≡ longest_run covered (run + length same) rest
  all_missing run [] rest are = grind arith
  all_missing run (step ∷ same) rest are = grind (
    arith,
    at_missing,
    All-head,
    All-tail,
    all_missing (run + 1) same rest (All-tail Missing step same are),
  )

  pub all_covered : (run : ℕ) (first : Step) (same rest : List Step) → All Covered (first ∷ same)
      → longest_run covered run (first ∷ (same ++ rest)) ≡ max run (longest_run covered 0 rest)
  all_covered run first [] rest are = at_covered run first rest (All-head Covered first [] are)
  all_covered run first (step ∷ same) rest are = grind (
    arith,
    at_covered,
    All-head,
    All-tail,
    all_covered 0 step same rest (All-tail Covered first (step ∷ same) are),
  )

  pub at_least : (run : ℕ) (steps : List Step) → run ≤ longest_run covered run steps
  at_least run [] = omega arith
  at_least run (step ∷ steps) =
      grind (arith, cases_Bool, at_covered, at_missing, at_least (run + 1) steps)

  -- ---- no run is longer

  none_longer : (run : ℕ) (before same behind : List Step) → All Missing same
      → length same ≤ longest_run covered run (before ++ (same ++ behind))
  none_longer run [] same behind are = grind (arith, all_missing, at_least)
  none_longer run (step ∷ before) same behind are = grind (
    arith,
    cases_Bool,
    at_covered,
    at_missing,
    none_longer 0 before same behind are,
    none_longer (run + 1) before same behind are,
  )

  -- ---- one run is as long

  -- steps that have a run of this length
  pub record Has (steps : List Step) (count : ℕ) : Type 0 where
    pub before : List Step
    pub longest : List Step
    pub behind : List Step
    pub split : steps ≡ before ++ (longest ++ behind)
    pub missing : All Missing longest
    pub length_is : count ≡ length longest

  has_run : (lead steps : List Step) → All Missing lead
      → Has (lead ++ steps) (longest_run covered (length lead) steps)
  has_run lead [] are = record {
    before = [];
    longest = lead;
    behind = [];
    split = refl;
    missing = are;
    length_is = refl;
  }
  has_run lead (step ∷ steps) are = elim (cases_Bool (covered step)) [
    | inl is ↦
        let found = has_run [] steps (All-nil Missing) in
        elim (cases_lt (length lead) (longest_run covered 0 steps)) [
          | inl less ↦ record {
            before = lead ++ step ∷ found.before;
            longest = found.longest;
            behind = found.behind;
            split = ap (λ (l : List Step). lead ++ step ∷ l) found.split
                ∙ sym (append_assoc lead (step ∷ found.before) (found.longest ++ found.behind));
            missing = found.missing;
            length_is = rw is (omega arith);
          }
          | inr more ↦ record {
            before = [];
            longest = lead;
            behind = step ∷ steps;
            split = refl;
            missing = are;
            length_is = rw is (omega arith);
          }
        ]
    | inr is ↦ rw (is, ← length_push lead step, ← append_assoc lead (step ∷ []) steps)
        (has_run (lead ++ step ∷ []) steps (All-push Missing lead step are is))
  ]

  pub longest_is : (steps : List Step) → Has steps (longest_run covered 0 steps)
  longest_is steps = has_run [] steps (All-nil Missing)

  pub none_is_longer : (before same behind : List Step) → All Missing same
      → length same ≤ longest_run covered 0 (before ++ (same ++ behind))
  none_is_longer before same behind are = none_longer 0 before same behind are

  -- ---- whether the longest run is at most so long

  module _ (most : ℕ) where
    abbrev pub Within : ℕ → List Step → Bool
    Within run steps = nat_le (longest_run covered run steps) most

    max_within : (run n : ℕ) → run ≤ most → nat_le (max run n) most ≡ nat_le n most
    max_within run n small = elim (cases_lt most n) [
      | inl more ↦ lt-leb (max run n) most (omega arith) ∙ sym (lt-leb n most more)
      | inr less ↦ le-leb (max run n) most (omega arith) ∙ sym (le-leb n most less)
    ]

    pub too_long : (run : ℕ) (steps : List Step) → most < run → Within run steps ≡ false
    too_long run steps more = lt-leb (longest_run covered run steps) most
        (omega (arith, at_least run steps))

    -- a stretch of steps that are alike, and those behind it
    pub next_alike : (run line at count : ℕ) (behind : List Step) (is_covered : Bool) → run ≤ most
        → 0 < count → All (λ (step : Step). covered step ≡ is_covered) (stretch line at count)
        → Within run (stretch line at count ++ behind)
        ≡ Within (if is_covered then 0 else run + count) behind
    next_alike run line at zero behind true small some are = absurd (omega arith)
    next_alike run line at (suc count) behind true small some are =
        ap (λ (n : ℕ). nat_le n most) (all_covered run (record { line = line; at = at })
        (stretch line (at + 1) count) behind are)
        ∙ max_within run (longest_run covered 0 behind) small
    next_alike run line at count behind false small some are =
        ap (λ (n : ℕ). nat_le n most) (all_missing run (stretch line at count) behind are
        ∙ ap (λ (n : ℕ). longest_run covered (run + n) behind) (length-stretch line at count))

    pub next_stretch : (run line at end to : ℕ) (rest : List Step) (is_covered : Bool) → run ≤ most
        → at < end → end ≤ to
        → All (λ (step : Step). covered step ≡ is_covered) (stretch line at (end - at))
        → Within run (stretch line at (to - at) ++ rest)
        ≡ Within (if is_covered then 0 else run + (end - at)) (stretch line end (to - end) ++ rest)
    next_stretch run line at end to rest is_covered small before inside are =
        let whole : to - at ≡ (end - at) + (to - end) = omega (arith, before) in
        let next : at + (end - at) ≡ end = omega (arith, before) in
        let split : stretch line at (to - at) ≡ stretch line at (end - at)
        ++ stretch line end (to - end) =
        ap (λ (n : ℕ). stretch line at n) whole ∙ stretch-add line at (end - at) (to - end)
        ∙ ap (λ (n : ℕ). stretch line at (end - at) ++ stretch line n (to - end)) next in
        ap (λ (l : List Step). Within run (l ++ rest)) split ∙ ap (λ (l : List Step). Within run l)
        (append_assoc (stretch line at (end - at)) (stretch line end (to - end)) rest)
        ∙ next_alike run line at (end - at) (stretch line end (to - end) ++ rest) is_covered small
        (omega (arith, before)) are

-- ---- two ways to say what is covered
