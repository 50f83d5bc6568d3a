use Rattle.olr_route.proofs.Common.{inl, inr, subst, refl, rules, arith, Contains, length_permutation}
use Rattle.olr_route.proofs.Ending.{all_reached}
use Rattle.olr_route.proofs.TightPaths.{departure_length}
use Rattle.olr_route.proofs.Underway.{arrives, ended, none_nearer, underway_begun, underway_more}
use Rattle.olr_route.proofs.dijkstra.search.Goals as goal

pub loop-arrival-init : goal.loop-arrival-init
loop-arrival-init c =
    let ask = c.args.search.now in
    let nodes = c.in_ok-state.ensures.nodes ask.map.now in
    record {
      underway = underway_begun ask _ c.leave.new.queue
          (c.in_ok-state.ensures.none_reached ask.map.now)
          (omega (arith, departure_length _ _ c.requires.from))
          (rw c.in_ok-state.ensures.queue at c.in_ok-leave.ensures);
      nodes = record {
        unreached = nodes.unreached;
        reached = nodes.reached;
        banned =
            nodes.banned;
        steps = nodes.steps;
      };
      reached = λ index target before is. absurd (omega arith);
      at_most = omega arith;
    }

pub arrive-requires-clause-ends : goal.arrive-requires-clause-ends
arrive-requires-clause-ends c =
    (arrives _ _ _ _ _ _ c.loop-arrival.invariant.underway c.in-Some.ensures.taken).0.over.ends

pub arrive-requires-clause-positive : goal.arrive-requires-clause-positive
arrive-requires-clause-positive c =
    (arrives _ _ _ _ _ _ c.loop-arrival.invariant.underway c.in-Some.ensures.taken).0.positive

pub loop-arrival-smaller : goal.loop-arrival-smaller
loop-arrival-smaller c =
    omega (arith, length_permutation _ _ c.in-Some.ensures.taken, c.in_ok-arrive.ensures.bounded)

pub loop-arrival-preserved : goal.loop-arrival-preserved
loop-arrival-preserved c =
    let goes = c.in_ok-arrive.ensures in
    record {
      underway = underway_more _ _ _ _ _ _ c.loop-arrival.invariant.underway c.in-Some.ensures.taken
          c.in-Some.ensures.nearest _ _ goes.arrived;
      nodes = goes.nodes;
      reached = c.count_reached-count.ensures.reached;
      at_most = c.count_reached-count.ensures.at_most;
    }

pub returns-then-is_some-clause-ended : goal.returns-then-is_some-clause-ended
returns-then-is_some-clause-ended c =
    let underway = c.loop-arrival.invariant.underway in
    ended _ c.loop-arrival.longest c.loop-arrival.longest _ _ underway underway.at_most
    (λ line length known. (underway.sound line length known).0)
    (none_nearer _ _ _ _ _ _ underway c.in-Some.ensures.taken c.loop-arrival.longest (search rules)
    c.in-Some.ensures.nearest)
    (inl (all_reached _ _ _ _ c.targets_of-targets.ensures (search rules) (search rules)
    c.loop-arrival.invariant.reached))

pub returns-clause-ended : goal.returns-clause-ended
returns-clause-ended c =
    let underway = c.loop-arrival.invariant.underway in
    ended _ c.loop-arrival.longest c.args.search.now.limit _ _ underway (omega arith)
    (λ line length known. omega (arith, (underway.sound line length known).0))
    (λ arrival is. absurd (let none =
    subst (λ l. Contains l arrival) c.in_default.ensures.none.0 is in omega arith))
    (inr refl)
