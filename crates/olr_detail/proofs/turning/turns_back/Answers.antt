use Rattle.std.proofs.Common.{◌≡◌, ◌+◌, ◌-◌, ℕ, List, Some, arith, inl, inr, slice_get}
use Rattle.std.proofs.lemmas.Bool.{cases_lt}
use Rattle.std.proofs.lemmas.Option.{get_or_from_slice_get, slice_get_within}
use Rattle.std.specs.Prelude.{slice_index_or}
use Rattle.olr_road.specs.RoadMap.{RoadLine}
use Rattle.olr_route.specs.declared.piece.Piece.{Piece}
use Rattle.olr_detail.specs.Turning.{TurnsBackAt}
use Rattle.olr_detail.proofs.turning.turns_back.Goals as goal

-- the two pieces before an index
at_last : (lines : List RoadLine) (route : List Piece) (d e : Piece) (k index : ℕ)
    (piece next : Piece) → k + 1 ≡ index → slice_get route k ≡ Some piece
    → slice_get route (k + 1) ≡ Some next → TurnsBackAt lines piece next
    → TurnsBackAt lines (slice_index_or route (index - 1) d) (slice_index_or route index e)
at_last lines route d e k index piece next same at next_at turns =
    let one = get_or_from_slice_get route k piece d at in
    let other = get_or_from_slice_get route (k + 1) next e next_at in
    let before : index - 1 ≡ k = omega (arith, same) in
    rw (before, ← same, one, other) turns

pub loop-index-preserved : goal.loop-index-preserved
loop-index-preserved c k piece next less at next_at turns =
    elim (cases_lt (k + 1) c.loop-index.index) [
      | inl before ↦ c.loop-index.invariant k piece next before at next_at turns
      | inr behind ↦
          let same : k + 1 ≡ c.loop-index.index = omega (arith, less, behind) in
          let yes = c.turns_back_at.ensures.1 (at_last _ c.args.route.now _ _ k c.loop-index.index
          piece next same at next_at turns) in
          cc (yes, c.if-turns_back_at.false)
    ]

pub returns : goal.returns
returns c = (
  (λ is. absurd (cc is)),
  (λ turns. absurd (c.loop-index.invariant turns.index turns.piece turns.next (omega (
    arith,
    slice_get_within c.args.route.now (turns.index + 1) turns.next turns.next_is,
    c.loop-index-test.false,
  )) turns.piece_is turns.next_is turns.turns)),
)
