use Rattle.olr_keys.proofs.Common.{◌≡◌, length, refl, arith}
use Rattle.olr_keys.proofs.Beginnings.{begins_longer, least_left, least_with, step_at_most, whole_in_range}
use Rattle.olr_keys.proofs.Searching.{pushed_length}
use Rattle.olr_keys.proofs.bound_finder.+least_from.Goals as goal
use Rattle.olr_keys.proofs.bound_finder.+least_from.Goals.{in-Some, in_default}

pub invariant_of-key : goal.invariant_of-key
invariant_of-key t c =
    let last : length c.args.beginning.ranks.items ≡ length c.args.bounds.now.candidates =
    omega arith in
    whole_in_range _ _ _ _ c.layers.ensures.sound last c.requires.keys

pub least_from-least-requires : goal.least_from-least-requires
least_from-least-requires t c =
    let (before, (sum, step, total_is, ranks_are)) = c.in-Some.ensures in
    let at_most = step_at_most _ _ c.args.beginning.total _ _ c.layers.ensures.sound step in
    let count = pushed_length _ _ ranks_are in
    rw before (
      omega arith,
      (
        omega arith,
        (
          (omega arith, omega arith),
          (
            omega arith,
            rw total_is (begins_longer _ _ _ _ ranks_are step c.requires.keys),
          ),
        ),
      ),
    )

pub loop-index-preserved : goal.loop-index-preserved
loop-index-preserved t c =
    elim c.match-longer.branch [
      | in-Some w ↦
          let (before, (sum, step, total_is, ranks_are)) = w.in-Some.ensures in
          rw w.least-is (least_with _ _ _ _ _ _ _ _ _ _ _ _ _ refl
          total_is ranks_are step c.loop-index.invariant (rw before at w.least_from-least.ensures))
      | in_default w ↦ rw w.least-is (least_left _ _ _ _ _ _ _ _ _ refl w.in_default.ensures
          c.loop-index.invariant)
    ]
