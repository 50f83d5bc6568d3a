use Rattle.std.proofs.Common.{◌≡◌, ◌+◌, true, take}
use Rattle.olr_legs.specs.Seeking.{IsMissingOf}
use Rattle.olr_legs.proofs.OverStarts.{cut, next_start, not_cut}
use Rattle.olr_legs.proofs.seeking.first_missing_any.Goals as goal

pub returns-then-is_cut : goal.returns-then-is_cut
returns-then-is_cut c =
    let seek = c.args.seek in
    let starts = c.args.starts.now in
    let next = next_start seek starts c.loop-start.start-index c.args.bound c.loop-start.turns
    c.first_missing.new.turns c.loop-start.best c.in_ok-next.next c.both-best.result c.sound.ensures
    c.loop-start-test.true c.loop-start.invariant.few c.loop-start.invariant.sought
    (rw (← c.next_bound.ensures) c.in_ok-next.ensures) c.both-best.ensures in
    cut seek.map.now seek.reach.now.from seek.to
    (IsMissingOf seek (take (c.loop-start.start-index + 1) starts)) c.args.bound
    c.first_missing.new.turns (IsMissingOf seek starts) c.both-best.result next
    (c.is_cut.ensures.0 c.if-is_cut.true)

pub loop-start-preserved : goal.loop-start-preserved
loop-start-preserved c =
    let seek = c.args.seek in
    let starts = c.args.starts.now in
    let next = next_start seek starts c.loop-start.start-index c.args.bound c.loop-start.turns
    c.first_missing.new.turns c.loop-start.best c.in_ok-next.next c.both-best.result c.sound.ensures
    c.loop-start-test.true c.loop-start.invariant.few c.loop-start.invariant.sought
    (rw (← c.next_bound.ensures) c.in_ok-next.ensures) c.both-best.ensures in
    record {
      few = not_cut seek.map.now seek.reach.now.from seek.to
          (IsMissingOf seek (take (c.loop-start.start-index + 1) starts)) c.args.bound
          c.first_missing.new.turns c.both-best.result next
          (λ same. let yes : c.is_cut.result ≡ true = c.is_cut.ensures.1 same in cc);
      sought = next;
    }
