use Rattle.std.proofs.Common.{ℕ, ◌<◌, ◌≡◌, take}
use Rattle.std.specs.Prelude.{Contains}
use Rattle.std.specs.List.{sum_by}
use Rattle.olr_route.specs.Walk.{piece_length}
use Rattle.olr_legs.specs.Stretches.{IsStart}
use Rattle.olr_legs.proofs.stretches.starts_of.Given as goal

-- the step at which the next piece begins, and the starts on the pieces so far
abbrev pub invariant-loop-piece : goal.invariant-loop-piece
invariant-loop-piece l = record {
  so_far : l.start ≡ sum_by piece_length (take l.piece-index l.route);
  found : (start : ℕ) → (is : IsStart l.to l.route start) → is.index < l.piece-index
      → Contains l.starts.items start;
}
