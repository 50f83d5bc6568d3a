-- What a part of a route misses of another part: the longest stretch that the other one drives and
-- it doesn't. (That two places differ by such a stretch, and not by the share that they have in
-- common, is this project's choice.) A step is a decimetre of a line.
use Rattle.std.specs.Prelude.{◌≡◌, ℕ, ◌+◌, ◌≤◌, Bool, true, ◌&&◌, ◌==◌, nat_lt, nat_le, if◌then◌else◌, List, [], ◌∷◌, ◌++◌, length, max, All, Contains}
use Rattle.std.specs.List.{list_any}
use Rattle.olr_route.specs.declared.piece.Piece.{Piece}
use Rattle.olr_report.specs.Steps.{Step, steps_of}

-- neighbouring steps of another part, none of which is a step of this part
pub record IsMissingRun (part other run : List Step) : Type 0 where
  pub before : List Step
  pub behind : List Step
  pub neighbours : other ≡ before ++ (run ++ behind)
  pub missing : All (λ (step : Step). ¬ (Contains part step)) run

-- a part misses at most so many neighbouring steps of another one
abbrev pub MissesAtMost : List Step → List Step → ℕ → Type 0
MissesAtMost part other most = (run : List Step) → IsMissingRun part other run → length run ≤ most

-- What a part misses of another one, in decimetres: the length of the longest run of neighbouring
-- steps of the other one none of which is a step of the part.
pub record IsMissing (part other : List Step) (count : ℕ) : Type 0 where
  pub longest : List Step
  pub is_run : IsMissingRun part other longest
  pub length_is : length longest ≡ count
  pub at_most : MissesAtMost part other count

-- ---- the same, as a number that is computed from pieces

-- whether a step is one of a piece
abbrev pub has_step : Step → Piece → Bool
has_step step piece = (piece.line == step.line)
    && (nat_le piece.from step.at && nat_lt step.at piece.to)

-- whether a step is one of the steps of pieces
abbrev pub covers : List Piece → Step → Bool
covers pieces step = list_any (has_step step) pieces

-- each step of each of some pieces is a step of these pieces
abbrev pub AreCovered : List Piece → List Piece → Type 0
AreCovered pieces some = (piece : Piece) → Contains some piece → (step : Step)
    → has_step step piece ≡ true → covers pieces step ≡ true

-- the length of the longest run of neighbouring steps that aren't covered, where so many such steps
-- stand before the first one
abbrev pub longest_run : (Step → Bool) → ℕ → List Step → ℕ
longest_run is_covered run [] = run
longest_run is_covered run (step ∷ steps) =
    if is_covered step then max run (longest_run is_covered 0 steps) else longest_run is_covered
    (run + 1) steps

-- what pieces miss of other pieces, in decimetres
abbrev pub missing_of : List Piece → List Piece → ℕ
missing_of pieces other = longest_run (covers pieces) 0 (steps_of other)
