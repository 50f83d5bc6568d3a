use Rattle.std.proofs.Common.{arith, refl}
use Rattle.olr_legs.specs.Departing.{IsFirstDeparting}
use Rattle.olr_legs.specs.Search.{IsReady}
use Rattle.olr_legs.specs.declared.search.Search.{Search}
use Rattle.olr_legs.proofs.Finding.{first_within, found_length, none_within}
use Rattle.olr_legs.proofs.Settling.{popped_settled}
use Rattle.olr_legs.proofs.avoiding.first_avoiding.Goals as goal

pub spread-requires-clause-settled : goal.spread-requires-clause-settled
spread-requires-clause-settled c =
    popped_settled _ c.loop-length.labels
    (record { ways = c.loop-length.labels.ways; waiting = c.pop.new.self }) c.in-Some.field-0.0.1 c.in-Some.field-0.0.0 (λ k. refl)
    c.in-Some.ensures.permutation c.loop-length.invariant.settled

pub loop-length-preserved : goal.loop-length-preserved
loop-length-preserved c =
    let goes = c.in_ok-spread.ensures in
    let whole = rw c.if-not-branch.false at goes.settled in
    record {
      sound = goes.sound;
      settled = whole.1;
      ends = λ may. goes.kept _ _ _ (c.loop-length.invariant.ends may);
      turns = whole.0;
      more = omega (arith, goes.turns);
    }

pub returns-in-Some-2-clause-sought : goal.returns-in-Some-2-clause-sought
returns-in-Some-2-clause-sought c =
    let inv = c.loop-length.invariant in
    let best = c.in_ok-way.ensures in
    let search : Search = record {
      map = c.args.map;
      reach = c.args.reach;
      to = c.args.to;
      bound = c.args.bound;
      shut = c.args.shut;
    } in
    let ready : IsReady search =
    record { held = c.requires.held; all = c.requires.all; far = c.requires.far; to = c.requires.to } in
    let departs : IsFirstDeparting search c.loop-length.labels c.in_ok-way.field-0 =
    record { departs = best.departs; first = best.first } in (
      inv.turns,
      first_within search c.loop-length.labels ready c.sound.ensures inv.settled inv.ends
          (omega (arith, c.in_default.ensures.none)) c.in_ok-way.field-0 departs c.in-Some-2.way
          c.in-Some-2.is,
      found_length search c.loop-length.labels ready c.sound.ensures inv.settled inv.ends
          (omega (arith, c.in_default.ensures.none)) c.in_ok-way.field-0 departs c.in-Some-2.way
          c.in-Some-2.is,
    )

pub returns-clause-sought : goal.returns-clause-sought
returns-clause-sought c =
    let inv = c.loop-length.invariant in
    let best = c.in_ok-way.ensures in
    let search : Search = record {
      map = c.args.map;
      reach = c.args.reach;
      to = c.args.to;
      bound = c.args.bound;
      shut = c.args.shut;
    } in
    let ready : IsReady search =
    record { held = c.requires.held; all = c.requires.all; far = c.requires.far; to = c.requires.to } in
    let departs : IsFirstDeparting search c.loop-length.labels c.in_ok-way.field-0 =
    record { departs = best.departs; first = best.first } in (
      inv.turns,
      none_within search c.loop-length.labels ready c.sound.ensures inv.settled inv.ends
          (omega (arith, c.in_default.ensures.none)) c.in_ok-way.field-0 departs c.in-None.is,
    )
