-- What pieces miss of others, and the test of closeness.
use Rattle.olr_route.specs.Walk.{piece_length}
use Rattle.olr_places.proofs.Common.{Piece, stretch, Step, steps_in, steps_of, covers, has_step, longest_run, missing_of, ◌≡◌, ℕ, zero, suc, ◌+◌, ◌<◌, ◌≤◌, true, false, List, [], ◌∷◌, length, refl, sym, ap, subst, inl, inr, arith, nat_le, Contains, Decides, cases_Bool, cases_eq, or_cases, or_left, or_right, le-leb, leb-true, both_ways, false≢true, Decides-and, Decides-like, Decides-eqb, All-contains, All-weaker, All-head, Contains-append_left, Contains-append_right, Contains-append_cases, Ground, IsClose, IsNear, is_near, line, point}
use Rattle.olr_road.specs.declared.place.Place.{Place}
use Rattle.olr_places.specs.Laws.{MissingIsComputed, TestsCloseness}
use Rattle.olr_places.specs.Missing.{IsMissingRun, MissesAtMost}
use Rattle.olr_places.proofs.Covering.{all_stretch, has_parts, has_from, step_at}
use Rattle.olr_places.proofs.Runs.{longest_is, none_is_longer}

-- ---- the steps of a piece

there : (first : Step) (steps : List Step) (step : Step) → Contains steps step
    → Contains (first ∷ steps) step
there first steps step has = (suc has.0, omega arith, has.2)

in_stretch : (on at count k : ℕ) → at ≤ k → k < at + count
    → Contains (stretch on at count) (step_at on k)
in_stretch on at zero k low high = absurd (omega arith)
in_stretch on at (suc count) k low high = elim (cases_eq at k) [
  | inl same ↦ (zero, omega arith, ap (step_at on) same)
  | inr other ↦ there (step_at on at) (stretch on (at + 1) count) (step_at on k)
      (in_stretch on (at + 1) count k (omega arith) (omega arith))
]

-- a step lies on a line from one position to another
abbrev Lies : ℕ → ℕ → ℕ → Step → Type 0
Lies on at count step = (step.line ≡ on) × (at ≤ step.at) × (step.at < at + count)

of_stretch : (on at count : ℕ) (step : Step) → Contains (stretch on at count) step
    → Lies on at count step
of_stretch on at count step has = All-contains (Lies on at count) (stretch on at count) step
    (all_stretch (Lies on at count) on at count (λ k low high. (refl, low, high))) has

step_of_piece : (piece : Piece) (step : Step) → has_step step piece ≡ true
    → Contains (steps_in piece) step
step_of_piece piece step is =
    let parts = has_parts step piece is in
    rw (← parts.0)
    (in_stretch piece.line piece.from (piece_length piece) step.at parts.1 (omega arith))

piece_of_step : (piece : Piece) (step : Step) → Contains (steps_in piece) step
    → has_step step piece ≡ true
piece_of_step piece step has =
    let lies = of_stretch piece.line piece.from (piece_length piece) step has in
    has_from step piece (sym lies.0) lies.1 (omega arith)

-- ---- the steps of pieces

pub covered_is : (pieces : List Piece) (step : Step) → covers pieces step ≡ true
    → Contains (steps_of pieces) step
covered_is [] step is = absurd (cc)
covered_is (piece ∷ pieces) step is = elim (or_cases (has_step step _) (covers pieces step) is) [
  | inl here ↦ Contains-append_left (steps_in piece) (steps_of pieces) step
      (step_of_piece piece step here)
  | inr later ↦ Contains-append_right (steps_in piece) (steps_of pieces) step
      (covered_is pieces step later)
]

pub is_covered : (pieces : List Piece) (step : Step) → Contains (steps_of pieces) step
    → covers pieces step ≡ true
is_covered [] step has = absurd (omega arith)
is_covered (piece ∷ pieces) step has =
    elim (Contains-append_cases (steps_in piece) (steps_of pieces) step has) [
      | inl here ↦ or_left (has_step step piece) _ (piece_of_step piece step here)
      | inr later ↦ or_right (has_step step piece) _ (is_covered pieces step later)
    ]

pub missing_is : (pieces : List Piece) (step : Step) → covers pieces step ≡ false
    → ¬ (Contains (steps_of pieces) step)
missing_is pieces step not_covered has = grind (arith, both_ways, is_covered)

is_missing : (pieces : List Piece) (step : Step) → ¬ (Contains (steps_of pieces) step)
    → covers pieces step ≡ false
is_missing pieces step none = grind (arith, cases_Bool, covered_is)

-- ---- what is missing

pub computed : MissingIsComputed
computed part other =
    let longest = longest_is (covers part) (steps_of other) in record {
      longest = longest.longest;
      is_run = record {
        before = longest.before;
        behind = longest.behind;
        neighbours = longest.split;
        missing = All-weaker (λ (step : Step). covers part step ≡ false)
            (λ (step : Step). ¬ (Contains (steps_of part) step)) (missing_is _) longest.longest
            longest.missing;
      };
      length_is = sym longest.length_is;
      at_most = λ run is. subst (λ (steps : List Step). length run
          ≤ longest_run (covers part) 0 steps) (sym is.neighbours)
          (none_is_longer (covers part) is.before run is.behind
          (All-weaker (λ (step : Step). ¬ (Contains (steps_of part) step))
          (λ (step : Step). covers part step ≡ false) (is_missing _) run is.missing));
    }

small : (part other : List Piece) (most : ℕ) → missing_of part other ≤ most
    → MissesAtMost (steps_of part) (steps_of other) most
small part other most few run is = omega (arith, few, (computed part other).at_most run is)

few : (part other : List Piece) (most : ℕ) → MissesAtMost (steps_of part) (steps_of other) most
    → missing_of part other ≤ most
few part other most misses =
    let is = computed part other in omega (arith, misses is.longest is.is_run)

decides_le : (a b : ℕ) → Decides (nat_le a b) (a ≤ b)
decides_le a b = (leb-true a b, le-leb a b)

decides_misses : (part other : List Piece) (most : ℕ)
    → Decides (nat_le (missing_of part other) most)
    (MissesAtMost (steps_of part) (steps_of other) most)
decides_misses part other most =
    Decides-like (nat_le (missing_of part other) most) (small part other most) (few part other most)
    (decides_le (missing_of part other) most)

decides_near : (apart : ℕ) (one other : Place)
    → Decides (is_near apart one other) (IsNear apart one other)
decides_near apart one other =
    grind (arith, Decides-like, Decides-and, nat_le, Decides-eqb, decides_le)

pub tests : TestsCloseness
tests apart (line one) (line other) = grind (arith, Decides-and, nat_le, decides_misses)
tests apart (line one) (point earliest latest) = (false≢true, λ never. absurd never)
tests apart (point earliest latest) (line one) = (false≢true, λ never. absurd never)
tests apart (point earliest latest) (point other_earliest other_latest) =
    grind (arith, Decides-and, decides_near)

-- ---- a matching is close to itself

-- the steps of a run are steps
in_run : {part other run : List Step} {step : Step} → IsMissingRun part other (step ∷ run)
    → Contains other step
in_run is = rw is.neighbours (Contains-append_right is.before _ _ (zero, omega arith, refl))

-- where each step of another part is a step of this one, nothing is missing
pub none_missing : (part other : List Step)
    → ((step : Step) → Contains other step → Contains part step) → MissesAtMost part other 0
none_missing part other all [] is = omega arith
none_missing part other all (step ∷ run) is =
    absurd (All-head (λ (one : Step). ¬ (Contains part one)) step run is.missing
    (all step (in_run is)))

near_itself : (apart : ℕ) (one : Place) → IsNear apart one one
near_itself apart one = record { on_line = refl; behind = omega arith; before = omega arith }

pub reflexive : (apart : ℕ) (one : Ground) → IsClose apart one one
reflexive apart (line one) =
    let none : MissesAtMost (steps_of one) (steps_of one) apart = λ run is.
    omega (arith, none_missing (steps_of one) (steps_of one) (λ step has. has) run is) in
    (none, none)
reflexive apart (point earliest latest) = (near_itself apart earliest, near_itself apart latest)
