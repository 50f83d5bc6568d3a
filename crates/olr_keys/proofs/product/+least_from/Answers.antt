use Rattle.olr_keys.proofs.Common.{◌≡◌, ℕ, ◌+◌, List, length, refl, arith, option_map, IsJoined}
use Rattle.olr_keys.proofs.Beginnings.{begins_longer, least_left, least_with, step_at_most, whole_in_range}
use Rattle.olr_keys.proofs.Leaving.{left_unjoined}
use Rattle.olr_keys.proofs.Searching.{pushed_length}
use Rattle.olr_keys.proofs.product.+least_from.Goals as goal
use Rattle.olr_keys.proofs.product.+least_from.Goals.{in-Some, in_default}

pub invariant_of-key : goal.invariant_of-key
invariant_of-key t c =
    let last : length c.args.beginning.ranks.items ≡ length c.args.table.now.candidates =
    omega arith in
    whole_in_range _ _ _ _ c.layers.ensures.sound last c.requires.keys

pub least_from-least-requires : goal.least_from-least-requires
least_from-least-requires t c =
    let p = c.args.table.now in
    let ranks : List ℕ = c.args.beginning.ranks.items in
    let step : IsJoined p (length ranks) c.args.beginning.before (c.loop-index.index + 1)
    (c.in-Some.joined.leg + c.in-Some.joined.penalty) =
    rw (← c.len-layer.ensures.value)
    (_, _, c.in-Some.ensures.joined.0, c.in-Some.ensures.joined.1, refl) in
    let at_most = step_at_most _ _ c.args.beginning.total _ _ c.layers.ensures.sound step in
    let more = c.longer-longer.ensures in
    let count = pushed_length _ _ more.ranks in
    rw (more.before, more.total) (
      omega arith,
      (
        omega arith,
        (
          (omega arith, omega arith),
          (omega arith, begins_longer _ _ _ _ more.ranks step c.requires.keys),
        ),
      ),
    )

pub loop-index-preserved : goal.loop-index-preserved
loop-index-preserved t c =
    let p = c.args.table.now in
    let ranks : List ℕ = c.args.beginning.ranks.items in
    let rank : ℕ = c.loop-index.index + 1 in
    let after = option_map (λ at. at.now) c.args.after in
    elim c.match-joined.branch [
      | in-Some w ↦
          let step : IsJoined p (length ranks) c.args.beginning.before rank
          (w.in-Some.joined.leg + w.in-Some.joined.penalty) =
          rw (← c.len-layer.ensures.value)
          (_, _, w.in-Some.ensures.joined.0, w.in-Some.ensures.joined.1, refl) in
          rw w.least-is (least_with _ _ _ _ _ _ _ _ _ _ _ _ _ refl w.longer-longer.ensures.total
          w.longer-longer.ensures.ranks step c.loop-index.invariant
          (rw w.longer-longer.ensures.before at w.least_from-least.ensures))
      | in_default w ↦
          let none : (sum : ℕ) → IsJoined p (length ranks) c.args.beginning.before rank sum → ⊥ =
          rw (← c.len-layer.ensures.value) w.in_default.ensures.joined in
          rw w.least-is (least_left p c.args.beginning.before c.args.beginning.total ranks after
          _ _ _ _ refl
          (left_unjoined p c.args.beginning.before _ ranks rank _ none) c.loop-index.invariant)
    ]
