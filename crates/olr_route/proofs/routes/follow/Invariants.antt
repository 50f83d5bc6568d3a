use Rattle.std.proofs.Common.{◌-◌}
use Rattle.olr_route.proofs.TightPaths.{IsFollowing}
use Rattle.olr_route.proofs.routes.follow.Given as goal

-- the pieces so far lead up to where the next one begins
abbrev pub invariant-loop-next : goal.invariant-loop-next
invariant-loop-next l = IsFollowing l.search l.groups l.fn.from l.to l.pieces.items l.place l.begin
    l.so_far

abbrev pub decreases-loop-next : goal.decreases-loop-next
decreases-loop-next l = l.search.limit - l.so_far
