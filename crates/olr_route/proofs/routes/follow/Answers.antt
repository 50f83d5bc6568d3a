use Rattle.std.proofs.Common.{arith}
use Rattle.olr_route.proofs.TightPaths.{departure_length, following_more, following_over, next_within}
use Rattle.olr_route.proofs.routes.follow.Goals as goal

pub loop-next-preserved : goal.loop-next-preserved
loop-next-preserved c =
    rw (c.in_ok-push.ensures.items, c.from-so_far.ensures, c.rest_of_line.ensures)
    (following_more _ _ _ _ c.sound.ensures c.requires.groups _ _ _ _ _ c.loop-next.invariant
    c.in-Some.ensures _ c.piece_to_end.ensures)

pub overflow_add-so_far : goal.overflow_add-so_far
overflow_add-so_far c =
    let within = next_within _ _ _ _ c.sound.ensures c.requires.groups _ _ _ _ c.in-Some.next
    c.loop-next.invariant c.in-Some.ensures in
    omega arith

pub loop-next-smaller : goal.loop-next-smaller
loop-next-smaller c =
    let within = next_within _ _ _ _ c.sound.ensures c.requires.groups _ _ _ _ c.in-Some.next
    c.loop-next.invariant c.in-Some.ensures in
    omega (
      arith,
      departure_length
          _ _ c.loop-next.invariant.start,
    )

pub returns : goal.returns
returns c = grind (arith, following_over _ _ _ _ _ _ _ _ c.loop-next.invariant c.in_default.ensures)
