use Rattle.olr_road.proofs.Common.{line_in, IsPermutation-map}
use Rattle.olr_road.proofs.Gathered.{sorted_gather}
use Rattle.olr_road.proofs.Sets.{ids_of_entries, option_cases, sorted_lines}
use Rattle.olr_road.proofs.line_set.LineSet.sort_or_repeat.Goals as goal

pub invariant_of-self : goal.invariant_of-self
invariant_of-self c = sorted_gather _ _ _ c.sort_or_repeat.ensures.same c.self.invariant

pub returns-in_err-repeat-clause-same : goal.returns-in_err-repeat-clause-same
returns-in_err-repeat-clause-same c =
    rw (← c.self.view_is) (IsPermutation-map (line_in c.self.inside.points.items) _ _
    c.sort_or_repeat.ensures.same)

pub invariant_of-self-2 : goal.invariant_of-self-2
invariant_of-self-2 c = sorted_gather _ _ _ c.sort_or_repeat.ensures.same c.self.invariant

pub returns-clause-same : goal.returns-clause-same
returns-clause-same c =
    rw (← c.self.view_is) (IsPermutation-map (line_in c.self.inside.points.items) _ _
    c.sort_or_repeat.ensures.same)

pub returns-clause-sorted : goal.returns-clause-sorted
returns-clause-sorted c =
    let points = c.self.inside.points.items in
    rw (← c.self.view_is) (option_cases _ _ c.in_ok-repeat.repeat c.in_ok-repeat.ensures.sorted
    (sorted_lines points _ _) (λ place first. rw (ids_of_entries points _) first))
