-- The law on the test of closeness: the contract of a public function that does nothing at run
-- time.
use Rattle.std.specs.Prelude.{ℕ, List, Decides}
use Rattle.olr_route.specs.declared.piece.Piece.{Piece}
use Rattle.olr_report.specs.Steps.{steps_of}
use Rattle.olr_places.specs.Missing.{IsMissing, missing_of}
use Rattle.olr_places.specs.Closeness.{Ground, IsClose, is_close}

-- the number that is computed from pieces is what they miss
abbrev pub MissingIsComputed : Type 0
MissingIsComputed = (part other : List Piece)
    → IsMissing (steps_of part) (steps_of other) (missing_of part other)

-- the test holds exactly for matchings that are close
abbrev pub TestsCloseness : Type 0
TestsCloseness = (apart : ℕ) (one other : Ground)
    → Decides (is_close apart one other) (IsClose apart one other)
