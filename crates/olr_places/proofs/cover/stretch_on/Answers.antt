use Rattle.std.proofs.Common.{◌≤◌, rules}
use Rattle.olr_places.proofs.Covering.{alike, forward}
use Rattle.olr_places.proofs.cover.stretch_on.Goals as goal

pub slice_bounds-next_stretch-count : goal.slice_bounds-next_stretch-count
slice_bounds-next_stretch-count c =
    forward c.args.pieces.now c.args.line c.count_before-first.result c.count_up_to-behind.result
    c.count_up_to-behind.ensures.at_most c.count_before-first.ensures.at_most
    c.count_before-first.ensures.point c.count_up_to-behind.ensures.point

pub slice_bounds-next_stretch-start : goal.slice_bounds-next_stretch-start
slice_bounds-next_stretch-start c =
    let ahead : c.count_before-first.result ≤ c.count_up_to-behind.result =
    forward c.args.pieces.now c.args.line c.count_before-first.result
    c.count_up_to-behind.result c.count_up_to-behind.ensures.at_most
    c.count_before-first.ensures.at_most c.count_before-first.ensures.point
    c.count_up_to-behind.ensures.point in
    search rules

pub returns-clause-alike : goal.returns-clause-alike
returns-clause-alike c = alike c.args.pieces.now c.args.line c.count_before-first.result
    c.count_up_to-behind.result
    c.count_up_to-behind.ensures.at_most c.count_before-first.ensures.at_most
    c.count_before-first.ensures.point c.count_up_to-behind.ensures.point
    c.args.at c.next_stretch.result.end c.next_stretch.ensures.forwards.0
    c.next_stretch.result.is_covered c.next_stretch.ensures.alike
