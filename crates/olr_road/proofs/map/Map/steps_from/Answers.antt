use Rattle.olr_road.proofs.Common.{line_ranks, Step, rules, ◌≡◌, ◌-◌, ◌≤◌, ℕ, List, drop, length, ap, arith, slice_range, concat, drop-map, length-map, take-map}
use Rattle.olr_road.proofs.Sets.{starts_of_entries}
use Rattle.olr_road.proofs.map.Map.steps_from.Goals as goal

-- as many steps as lines by node
as_many : (steps : List Step) (lines : List ℕ) → line_ranks steps ≡ lines
    → length steps ≡ length lines
as_many steps lines same = cc (length-map steps (λ (s : Step). s.line))

-- the lines of a part of the steps
line_ranks_of_part : (steps : List Step) (lines : List ℕ) (begin end : ℕ) → line_ranks steps ≡ lines
    → line_ranks (slice_range steps begin end) ≡ slice_range lines begin end
line_ranks_of_part steps lines begin end same = cc (
  take-map (λ (s : Step). s.line) (end - begin) (drop begin steps),
  drop-map (λ (s : Step). s.line) begin steps,
)

pub offset_bounds-deref-begin : goal.offset_bounds-deref-begin
offset_bounds-deref-begin c =
    let size = as_many _ _ c.self.invariant.ordered in
    let long = ap length c.deref.ensures.value in
    let inside : c.bounds-begin.result.0 ≤ length c.deref.result.now = omega arith in
    search rules

pub returns-clause-lines : goal.returns-clause-lines
returns-clause-lines c = rw (line_ranks_of_part c.deref.result.now (concat c.self.inside.by_start)
    c.bounds-begin.result.0 c.bounds-begin.result.1 (cc)) (rw (← c.self.view_is)
    (rw (← (starts_of_entries _ _))
    (c.self.invariant.started.each c.args.node _ c.bounds-begin.ensures.lines)))
