-- A walk is clear of pieces just where none of their steps is one of its own.
use Rattle.std.proofs.Common.{◌≡◌, ℕ, zero, suc, ◌+◌, ◌≤◌, true, false, List, [], ◌∷◌, All, length, refl, sym, ap, subst, ◌∙◌, inl, inr, arith}
use Rattle.std.proofs.lemmas.Bool.{cases_Bool, or_cases}
use Rattle.std.proofs.lemmas.List.Elements.{All-cons, All-contains, All-nil}
use Rattle.std.proofs.lemmas.List.Folds.{list_any_at}
use Rattle.std.specs.Prelude.{Contains}
use Rattle.olr_places.proofs.CloseLaws.{covered_is, is_covered}
use Rattle.olr_places.specs.Missing.{covers, has_step}
use Rattle.olr_report.specs.Steps.{Step, steps_of}
use Rattle.olr_road.specs.RoadMap.{RoadMap}
use Rattle.olr_road.specs.declared.place.Place.{Place}
use Rattle.olr_route.specs.Walk.{pieces_of}
use Rattle.olr_route.specs.declared.piece.Piece.{Piece}
use Rattle.olr_legs.specs.Avoiding.{AreOverlapping, IsAvoiding, IsClearOf}
use Rattle.olr_legs.specs.Seeking.{IsMissing}
use Rattle.olr_legs.specs.Stretches.{least_missed, stretch_from}
use Rattle.olr_legs.proofs.Steps.{has_from, has_parts, step_at}

-- ---- elements of lists

all_contained : {X : Type 0} (P : X → Type 0) (xs : List X) → ((x : X) → Contains xs x → P x)
    → All P xs
all_contained P [] each = All-nil P
all_contained P (x ∷ xs) each = All-cons P x xs (each x (0, omega arith, refl))
    (all_contained P xs (λ y has. each y (suc has.0, omega arith, has.2)))

covered_by : (pieces : List Piece) (step : Step) → covers pieces step ≡ true → (piece : Piece)
    × Contains pieces piece × (has_step step piece ≡ true)
covered_by [] step is = absurd (cc)
covered_by (piece ∷ pieces) step is =
    elim (or_cases (has_step step piece) (covers pieces step) is) [
      | inl here ↦ (piece, (0, omega arith, refl), here)
      | inr later ↦
          let found = covered_by pieces step later in
          (found.0, (suc found.1.0, omega arith, found.1.2), found.2)
    ]

covers_of : (pieces : List Piece) (step : Step) (piece : Piece) → Contains pieces piece
    → has_step step piece ≡ true → covers pieces step ≡ true
covers_of pieces step piece has is = list_any_at (has_step step) pieces has.0 piece has.1
    (ap (has_step step) has.2 ∙ is)

-- a list of one element has no other one
pub only : (one other : ℕ) → Contains (one ∷ []) other → other ≡ one
only one other (zero, within, same) = sym same
only one other (suc k, within, same) = absurd (omega arith)

-- ---- walks

abbrev Missed : List Piece → Step → Type 0
Missed pieces step = covers pieces step ≡ false

clear_misses : (walk shut : List Piece) → All (IsClearOf shut) walk
    → All (Missed walk) (steps_of shut)
clear_misses walk shut clear = all_contained (Missed walk) (steps_of shut) (λ step has.
    elim (cases_Bool (covers walk step)) [
      | inr is ↦ is
      | inl is ↦
          let mine = covered_by walk step is in
          let theirs = covered_by shut step (is_covered shut step has) in
          let my_parts = has_parts step mine.0 mine.2 in
          let their_parts = has_parts step theirs.0 theirs.2 in
          let overlap : AreOverlapping theirs.0 mine.0 = record {
            line = step.line;
            at = step.at;
            in_one = record {
              on = their_parts.0;
              behind_from = their_parts.1;
              before_to = their_parts.2;
            };
            in_other = record {
              on = my_parts.0;
              behind_from = my_parts.1;
              before_to = my_parts.2;
            };
          } in
          absurd (All-contains (λ (other : Piece). AreOverlapping other mine.0 → ⊥) shut theirs.0
          (All-contains (IsClearOf shut) walk mine.0 clear mine.1) theirs.1 overlap)
    ])

misses_clear : (walk shut : List Piece) → All (Missed walk) (steps_of shut)
    → All (IsClearOf shut) walk
misses_clear walk shut missed = all_contained (IsClearOf shut) walk (λ mine has.
    all_contained (λ (other : Piece). AreOverlapping other mine → ⊥) shut (λ other there overlap.
    let step : Step = step_at overlap.line overlap.at in
    let in_mine : covers walk step ≡ true =
    covers_of walk step mine has (has_from step mine overlap.in_other.on
    overlap.in_other.behind_from overlap.in_other.before_to) in
    let in_other : covers shut step ≡ true =
    covers_of shut step other there (has_from step other overlap.in_one.on
    overlap.in_one.behind_from overlap.in_one.before_to) in
    let none : covers walk step ≡ false =
    All-contains (Missed walk) (steps_of shut) step missed (covered_is shut step in_other) in
    absurd (cc)))

module _ (road : RoadMap) (class : ℕ) (from to : Place) (route shut : List Piece) (start : ℕ)
    (steps_are : steps_of shut ≡ stretch_from route start)
    (within : start + least_missed ≤ length (steps_of route)) where
  pub missing_of_avoiding : (behind : List ℕ) → IsAvoiding road class from to shut behind
      → IsMissing road class from to route (start ∷ []) behind
  missing_of_avoiding behind is = record {
    is = is.is;
    leaves_line = is.leaves_line;
    start = start;
    among = (0, omega arith, refl);
    missed = record {
      within = within;
      missed = subst (All (Missed (pieces_of road from to behind))) steps_are
          (clear_misses (pieces_of road from to behind) shut is.clear);
    };
  }

  pub avoiding_of_missing : (behind : List ℕ)
      → IsMissing road class from to route (start ∷ []) behind
      → IsAvoiding road class from to shut behind
  avoiding_of_missing behind is =
      let walk = pieces_of road from to behind in record {
        is = is.is;
        leaves_line = is.leaves_line;
        clear = misses_clear walk shut (subst (All (Missed walk))
            (ap (stretch_from route) (only start is.start is.among) ∙ sym steps_are)
            is.missed.missed);
      }
