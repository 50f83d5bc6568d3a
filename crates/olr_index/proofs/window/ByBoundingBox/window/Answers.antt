use Rattle.olr_index.proofs.Common.{drop, take, ap, ◌∙◌, arith, NoneMeets, ranks_in}
use Rattle.olr_index.proofs.ByRank.{is_window}
use Rattle.olr_index.proofs.Blocks.{ranks_between, started}
use Rattle.olr_index.proofs.window.ByBoundingBox.window.Goals as goal

pub returns : goal.returns
returns c =
    let window = c.args.bounds.now in
    let lines = c.self.inside.lines.items in
    let groups = c.self.inside.groups.items in
    let first = c.first_that_meets-first.result in
    let end = c.end_of_those_that_meet-end.result in
    let before : NoneMeets window (take first groups) =
    rw (← c.deref.ensures.value) c.first_that_meets-first.ensures.none in
    let behind : NoneMeets window (drop end groups) =
    rw (← c.deref-2.ensures.value) c.end_of_those_that_meet-end.ensures.none in
    let same = ap (ranks_in window) (cc)
    ∙ ranks_between 4096 window lines groups first end (omega arith) c.self.invariant.2 before
    behind in
    rw (started window c.between.result.now lines same)
    (is_window window c.args.self.now lines (rw c.self.view_is at c.self.invariant.0))
