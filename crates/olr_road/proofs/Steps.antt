-- The steps of the lines, in the order of the lines by the node at which they start.
use Rattle.olr_road.proofs.Common.{IsGrouping, Degrees, Entry, Step, line_in, lines_in, IsStepOf, line_ranks, starts_of, ◌≡◌, ℕ, suc, ◌+◌, ◌<◌, List, [], ◌∷◌, ◌++◌, length, take, get_or, Some, refl, arith, All, slice_get, concat, length-map, map_push, take_more, All-nil, All-append, All-weaker, slice_get-map, slice_get-get_or, slice_get_within}
use Rattle.olr_road.specs.Steps.{step_of}

-- ---- while they are gathered

-- one more step
pub line_ranks_of_more : (lines : List ℕ) (i : ℕ) (steps more : List Step) (step : Step)
    → i < length lines → step.line ≡ get_or lines i 0
    → more ≡ steps ++ step ∷ [] → line_ranks steps ≡ take i lines
    → line_ranks more ≡ take (i + 1) lines
line_ranks_of_more lines i steps more step inside here is before =
    grind (arith, map_push, take_more)

-- the step of an entry is that of its line
pub is_step : (points : List Degrees) (entries : List Entry) (rank : ℕ) (d : Entry)
    → rank < length entries
    → IsStepOf (lines_in points entries) (step_of rank (line_in points (get_or entries rank d)))
is_step points entries rank d inside = grind (arith, slice_get-map, slice_get-get_or)

-- ---- of the lines by node

all_of_groups : (P : ℕ → Type 0) (groups : List (List ℕ))
    → ((node : ℕ) (lines : List ℕ) → slice_get groups node ≡ Some lines → All P lines)
    → All P (concat groups)
all_of_groups P [] each = All-nil P
all_of_groups P (lines ∷ groups) each = All-append P _ _ (each 0 lines refl)
    (all_of_groups P groups (λ node more is. each (suc node) more is))

-- each line by node is one of the lines
pub lines_known : (entries : List Entry) (nodes : ℕ) (groups : List (List ℕ))
    → IsGrouping (starts_of entries) nodes groups
    → All (λ rank. rank < length entries) (concat groups)
lines_known entries nodes groups grouping =
    all_of_groups (λ rank. rank < length entries) _ (λ node lines is.
    All-weaker (λ rank. slice_get (starts_of entries) rank ≡ Some node)
    (λ rank. rank < length entries)
    (λ rank starts. omega (
      arith,
      slice_get_within (starts_of entries) rank node starts,
      length-map entries (λ (entry : Entry). entry.line.from),
    )) lines (grouping.each node lines is).only)
