use Rattle.std.proofs.Common.{arith}
use Rattle.std.proofs.Common.{sym, ◌∙◌}
use Rattle.olr_route.proofs.Spreading.{groups_within, next_line, no_line_left, spread_all, spread_begun, spread_more, spread_next, spread_over, spread_skip}
use Rattle.olr_route.proofs.Lines.{origin_inside, origin_of}
use Rattle.olr_route.proofs.shortest.lines_on_shortest_paths.Goals as goal

pub groups-init : goal.groups-init
groups-init c =
    let starts = origin_of c.args.search.now.map.now c.args.target c.line.result
    c.line.ensures.line in
    record {
      spread = spread_begun _ _ _ c.sound.ensures _ (sym c.length_to.ensures ∙ c.in-Some.is) _ _ _
          c.new-groups.ensures.lines c.new-groups.ensures.none starts c.in_ok-add.ensures;
      on_map = origin_inside _ c.line.result.from c.args.target
          c.sound.ensures starts;
    }

pub start_on_path-requires-clause-groups : goal.start_on_path-requires-clause-groups
start_on_path-requires-clause-groups c =
    groups_within _ _ _ c.requires.within _ _ c.loop-line.invariant

pub loop-line-preserved-in_default-start_on_path : goal.loop-line-preserved-in_default-start_on_path
loop-line-preserved-in_default-start_on_path c =
    grind (arith, spread_skip, next_line _ _ c.loop-line-test.true)

pub loop-line-preserved : goal.loop-line-preserved
loop-line-preserved c =
    spread_more _ _ _ _ _ _ _ _ (rw
    (next_line _ _ c.loop-line-test.true)
    at c.loop-line.invariant) c.sound.ensures _ _
    c.in-Some-start_on_path.ensures _
    (origin_of c.args.search.now.map.now _ c.line-in-loop-line.result
    c.line-in-loop-line.ensures.line) c.in_ok-add-2.ensures

pub returns-in_default-last_before : goal.returns-in_default-last_before
returns-in_default-last_before c =
    spread_all _ _ _ _ _ _ c.in_default-last_before.ensures
    (spread_over _ _ _ _ _ _ (no_line_left _ _
    c.loop-line.auto.line-index-end c.loop-line-test.false) _ c.loop-line.invariant)

pub groups-preserved : goal.groups-preserved
groups-preserved c = record {
  spread = spread_next _ _ _ _ _ _ _ _ c.in-Some-last_before.ensures
      (spread_over _ _ _ _ _ _ (no_line_left _
      _ c.loop-line.auto.line-index-end c.loop-line-test.false) _
      c.loop-line.invariant);
  on_map = c.loop-line.invariant.on_map c.in-Some-last_before.before
      c.in-Some-last_before.ensures.0;
}
