use Rattle.olr_route.proofs.Common.{IsStepOf, line_ranks, AreVisited, IsDone, ◌≡◌, take, get, All, nat_eq}
use Rattle.olr_route.proofs.state.State.try_turns.Given as goal

-- the turns to the lines of the steps so far were tried
abbrev pub invariant-loop-step : goal.invariant-loop-step
invariant-loop-step l = record {
  steps : All (IsStepOf l.search.map.now.lines) l.banned.items;
  visited : AreVisited l.search (IsDone l.search.map.now l.fn.self) l.arrival l.is_first
      (line_ranks (take l.step-index l.steps)) (line_ranks l.banned.items)
      (get nat_eq l.fn.self.starts.own) (get nat_eq l.self.starts.own) l.fn.self.queue l.self.queue;
  same : (l.self.starts.nodes ≡ l.fn.self.starts.nodes) × (l.self.banned ≡ l.fn.self.banned);
}
