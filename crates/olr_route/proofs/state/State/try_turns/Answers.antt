use Rattle.olr_route.proofs.Common.{IsStepOf, Step, own_reached, ◌≡◌, ℕ, false, ap, sym, refl, ◌∙◌, rules, get, nat_eq, map_more, All-get_or, All-push, All-same}
use Rattle.olr_route.proofs.Lines.{allowed_turn, never_allowed}
use Rattle.olr_route.proofs.Visiting.{line_among, done_before, line_ranks_of_push, none_still, own_still, visited_banned, visited_pushed}
use Rattle.olr_route.proofs.state.State.try_turns.Goals as goal

pub loop-step-preserved-then-not-is_allowed_by : goal.loop-step-preserved-then-not-is_allowed_by
loop-step-preserved-then-not-is_allowed_by c =
    let road = c.args.search.now.map.now in
    let inv = c.loop-step.invariant in
    let step = All-get_or (IsStepOf road.lines) c.args.steps.now c.loop-step.step-index _
    c.loop-step-test.true c.requires.steps in
    let pushed = c.in_ok-push.ensures.items in
    record {
      steps = All-same (IsStepOf road.lines) _ _ pushed
          (All-push (IsStepOf road.lines) _ _ inv.steps step);
      visited = visited_banned c.args.search.now _ c.args.arrival c.args.is_first _ _ _
          (map_more (λ (s : Step). s.line) c.args.steps.now c.loop-step.step-index _
          c.loop-step-test.true) _ _ _ _ _ inv.visited _ c.in_ok-insert.ensures.updates.2
          (never_allowed road c.args.arrival.line _ c.bans_from-bans.result.now
          c.bans_from-bans.ensures c.if-not-is_allowed_by.ensures)
          c.in_ok-insert.ensures.updates.1 _ (line_ranks_of_push _ _ _ pushed);
      same = inv.same;
    }

pub loop-step-preserved-then-not-is_first : goal.loop-step-preserved-then-not-is_first
loop-step-preserved-then-not-is_first c =
    let ask = c.args.search.now in
    let inv = c.loop-step.invariant in
    let later : c.args.is_first ≡ false = search rules in
    let never = never_allowed ask.map.now c.args.arrival.line _ c.bans_from-bans.result.now
    c.bans_from-bans.ensures c.if-not-is_allowed_by.ensures in
    let step = All-get_or (IsStepOf ask.map.now.lines) c.args.steps.now c.loop-step.step-index _
    c.loop-step-test.true c.requires.steps in
    let pushed = c.in_ok-push.ensures.items in
    let more = map_more (λ (s : Step). s.line) c.args.steps.now c.loop-step.step-index _
    c.loop-step-test.true in
    let own = c.requires.later later _
    (line_among c.args.steps.now c.loop-step.step-index _ c.loop-step-test.true) in
    record {
      steps = All-same (IsStepOf ask.map.now.lines) _ _ pushed
          (All-push (IsStepOf ask.map.now.lines) _ _ inv.steps step);
      visited = visited_banned ask _ c.args.arrival c.args.is_first _ _ _ more _ _ _ _ _ inv.visited
          _ (λ other differs. refl) never
          (none_still ask _ c.args.arrival c.args.is_first _ _ _ more _ _ _ _ _ inv.visited never
          own) _ (line_ranks_of_push _ _ _ pushed);
      same = inv.same;
    }

pub loop-step-preserved-then-is_first : goal.loop-step-preserved-then-is_first
loop-step-preserved-then-is_first c =
    let ask = c.args.search.now in
    let inv = c.loop-step.invariant in
    let may = allowed_turn ask.map.now c.args.arrival.line _ c.bans_from-bans.result.now
    c.bans_from-bans.ensures c.if-not-is_allowed_by.ensures in
    let pushed = c.in_ok-push-2.ensures in
    let more = map_more (λ (s : Step). s.line) c.args.steps.now c.loop-step.step-index _
    c.loop-step-test.true in
    let none = c.requires.own c.if-is_first.true _
    (line_among _ _ _ c.loop-step-test.true)
    ∙ ap (λ b. own_reached b c.args.arrival.at_end) (sym c.if-is_first.true) in
    let own = λ (line : ℕ). ap (λ s. get nat_eq s.own line) pushed.starts in
    record {
      steps = inv.steps;
      visited = visited_pushed ask _ c.args.arrival c.args.is_first _ _ _ more _ _ _ _ _ inv.visited
          _ (λ other _. own other) may
          (own _ ∙ own_still ask _ c.args.arrival c.args.is_first _ _ _ more _ _ _ _ _ inv.visited
          may none) _ _ pushed.pushed
          (done_before _ _ _ inv.same.0
          (λ node is. ap (λ b. get nat_eq b node) (sym inv.same.1) ∙ is) _);
      same = (ap (λ s. s.nodes) pushed.starts ∙ inv.same.0, pushed.banned ∙ inv.same.1);
    }

pub loop-step-preserved : goal.loop-step-preserved
loop-step-preserved c =
    let ask = c.args.search.now in
    let inv = c.loop-step.invariant in
    let pushed = c.in_ok-push-2.ensures in
    let updates = c.in_ok-insert-2.ensures.updates in
    record {
      steps = inv.steps;
      visited = visited_pushed ask _ c.args.arrival c.args.is_first _ _ _
          (map_more (λ (s : Step). s.line) c.args.steps.now c.loop-step.step-index _
          c.loop-step-test.true) _ _ _ _ _ inv.visited _
          (λ other differs. updates.2 other differs
          ∙ ap (λ s. get nat_eq s.own other) pushed.starts)
          (allowed_turn ask.map.now c.args.arrival.line _ c.bans_from-bans.result.now
          c.bans_from-bans.ensures c.if-not-is_allowed_by.ensures)
          (updates.1 ∙ ap (λ b. own_reached b c.args.arrival.at_end) (sym c.if-is_first.false)) _ _
          pushed.pushed
          (done_before _ _ _ inv.same.0
          (λ node is. ap (λ b. get nat_eq b node) (sym inv.same.1) ∙ is) _);
      same = (ap (λ s. s.nodes) pushed.starts ∙ inv.same.0, pushed.banned ∙ inv.same.1);
    }
