-- What closeness is.
use Rattle.olr_places_laws.proofs.Common.{Piece, Step, steps_of, covers, ◌≡◌, ℕ, zero, suc, ◌+◌, ◌≤◌, List, [], ◌∷◌, ◌++◌, sym, ap, inl, inr, arith, Contains, cases_Bool, All-nil, All-cons, IsNear, line, point, covered_is, missing_is, none_missing}
use Rattle.olr_road.specs.declared.place.Place.{Place}
use Rattle.olr_places.specs.Missing.{MissesAtMost}
use Rattle.olr_places_laws.specs.Laws.{CloseAtZero, CloseStaysClose, IsSymmetric}

near_too : (apart : ℕ) (one other : Place) → IsNear apart one other → IsNear apart other one
near_too apart one other is = record {
  on_line = sym is.on_line;
  behind = is.before;
  before =
      is.behind;
}

pub symmetric : IsSymmetric
symmetric apart (line one) (line other) is = (is.1, is.0)
symmetric apart (line one) (point earliest latest) is = absurd is
symmetric apart (point earliest latest) (line one) is = absurd is
symmetric apart (point earliest latest) (point other_earliest other_latest) is =
    (near_too _ _ _ is.0, near_too _ _ _ is.1)

still_few : (part other : List Step) (less apart : ℕ) → less ≤ apart → MissesAtMost part other less
    → MissesAtMost part other apart
still_few part other less apart more misses run is = omega (arith, misses run is)

still_near : (less apart : ℕ) (one other : Place) → less ≤ apart → IsNear less one other
    → IsNear apart one other
still_near less apart one other more is =
    record {
      on_line = is.on_line;
      behind = omega arith;
      before =
          omega arith;
    }

pub stays : CloseStaysClose
stays less apart (line one) (line other) more is = (
  still_few (steps_of one) (steps_of other) less apart more is.0,
  still_few (steps_of other) (steps_of one) less apart more is.1,
)
stays less apart (line one) (point earliest latest) more is = absurd is
stays less apart (point earliest latest) (line one) more is = absurd is
stays less apart (point earliest latest) (point other_earliest other_latest) more is = (
  still_near less apart earliest other_earliest more is.0,
  still_near less apart latest
      other_latest more is.1,
)

-- steps with one of them in the middle
record IsSplit (steps : List Step) (step : Step) : Type 0 where
  before : List Step
  behind : List Step
  whole : steps ≡ before ++ ((step ∷ []) ++ behind)

split_at : (steps : List Step) (step : Step) → Contains steps step → IsSplit steps step
split_at [] step has = absurd (omega arith)
split_at (first ∷ steps) step (zero, inside, same) =
    record { before = []; behind = steps; whole = ap (λ (one : Step). one ∷ steps) same }
split_at (first ∷ steps) step (suc k, inside, same) =
    let rest = split_at steps step (k, omega arith, same) in
    record {
      before = first ∷ rest.before;
      behind = rest.behind;
      whole =
          ap (λ (l : List Step). first ∷ l) rest.whole;
    }

-- where nothing of other pieces is missing, each of their steps is a step of these
all_of : (pieces other : List Piece) → MissesAtMost (steps_of pieces) (steps_of other) 0
    → (step : Step) → Contains (steps_of other) step → Contains (steps_of pieces) step
all_of pieces other misses step has = elim (cases_Bool (covers pieces step)) [
  | inl covered ↦ covered_is pieces step covered
  | inr missing ↦
      let split = split_at (steps_of other) step has in
      absurd (omega (
        arith,
        misses (step ∷ []) (record {
          before = split.before;
          behind = split.behind;
          neighbours = split.whole;
          missing = All-cons (λ (one : Step). ¬ (Contains (steps_of pieces) one)) step []
              (missing_is pieces step missing)
              (All-nil (λ (one : Step). ¬ (Contains (steps_of pieces) one)));
        }),
      ))
]

pub at_zero : CloseAtZero
at_zero one other = (
  λ is step. (all_of other one is.1 step, all_of one other is.0 step),
  λ same. (
    none_missing (steps_of one) (steps_of other) (λ step. (same step).1),
    none_missing (steps_of other) (steps_of one) (λ step. (same step).0),
  ),
)
