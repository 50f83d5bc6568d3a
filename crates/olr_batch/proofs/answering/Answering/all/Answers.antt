use Rattle.olr_batch.proofs.Common.{◌≡◌, ◌≤◌, ◌-◌, ◌^◌, rules, true, false, [], refl, inl, inr, ◌∙◌, arith, exit, left_of}
use Rattle.olr_batch.proofs.Stepping.{at_end_of, same, where_found, where_over}
use Rattle.olr_batch.proofs.Stopping.{answered, begun, stopped}
use Rattle.olr_batch.proofs.Written.{hand_of, of_same, one_more}
use Rattle.olr_batch.proofs.answering.Answering.all.Goals as goal

pub returns-in_err-next-clause-fault : goal.returns-in_err-next-clause-fault
returns-in_err-next-clause-fault g c =
    let inv = c.loop-number.invariant in
    let left = left_of c.loop-number.self.messages (g.S.Source.left c.loop-number.input) in
    rw (exit c.from_residual.ensures.1)
    (stopped g.S.Source.left g.S.Source.failed g.O.Sink.taken g.O.Sink.failed g.O.Sink.put_gives
    g.O.Sink.flush_gives c.args.on.now.records.now
    c.args.on.now.map.map.now c.loop-number.number c.args.input.now c.loop-number.input
    c.args.out.now c.loop-number.out left inv.so_far inv.none_failed
    inv.no_input_failed c.next.new.input c.next.new.out c.next.new.self.messages.at_hand
    c.in_err-next.field-0.0 (rw (← inv.records_are, ← inv.map_is) c.in_err-next.ensures.fault))

pub returns-then-not-branch-clause-answered : goal.returns-then-not-branch-clause-answered
returns-then-not-branch-clause-answered g c =
    let over : c.in_ok-next.field-0 ≡ false = search rules in
    let inv = c.loop-number.invariant in
    answered g.O.Sink.taken g.O.Sink.failed g.O.Sink.flush_gives c.args.on.now.records.now
    c.args.on.now.map.map.now c.loop-number.number
    (g.S.Source.left c.args.input.now)
    (left_of c.loop-number.self.messages (g.S.Source.left c.loop-number.input)) c.args.out.now
    c.loop-number.out inv.so_far
    inv.none_failed (left_of c.next.new.self.messages (g.S.Source.left c.next.new.input))
    c.next.new.out
    (where_over _ _ c.in_ok-next.field-0 over c.in_ok-next.ensures.moves)

pub returns-then-not-branch-clause-input_source : goal.returns-then-not-branch-clause-input_source
returns-then-not-branch-clause-input_source g c =
    let over : c.in_ok-next.field-0 ≡ false = search rules in
    let last = where_over _ _ c.in_ok-next.field-0 over c.in_ok-next.ensures.moves in (
      at_end_of c.next.new.self.messages.at_hand (g.S.Source.left c.next.new.input)
          last.over.at_end,
      c.in_ok-next.ensures.none_failed ∙ c.loop-number.invariant.no_input_failed,
    )

pub loop-number-preserved : goal.loop-number-preserved
loop-number-preserved g c =
    let found : c.in_ok-next.field-0 ≡ true = search rules in
    let inv = c.loop-number.invariant in
    let step = where_found _ _ c.in_ok-next.field-0 found c.in_ok-next.ensures.moves in
    record {
      records_are = c.in_ok-next.ensures.records ∙ inv.records_are;
      map_is = c.in_ok-next.ensures.map ∙ inv.map_is;
      so_far = one_more inv.so_far (of_same inv.records_are inv.map_is step.of_next) step.took
          refl;
      none_failed = step.none_failed ∙ inv.none_failed;
      no_input_failed = c.in_ok-next.ensures.none_failed ∙ inv.no_input_failed;
    }

pub returns-in_err-pass_on_unless-clause-fault : goal.returns-in_err-pass_on_unless-clause-fault
returns-in_err-pass_on_unless-clause-fault g c =
    let inv = c.loop-number.invariant in
    rw (
      exit c.from_residual-in_err-pass_on_unless.ensures.1,
      c.in_err-pass_on_unless.ensures.fault.0,
    ) (
      c.loop-number.out,
      [],
      begun g.O.Sink.taken g.O.Sink.failed g.O.Sink.flush_gives c.args.on.now.records.now
          c.args.on.now.map.map.now c.loop-number.number
          (g.S.Source.left c.args.input.now)
          (left_of c.loop-number.self.messages (g.S.Source.left c.loop-number.input))
          c.args.out.now
          c.loop-number.out inv.so_far inv.none_failed c.loop-number.out
          same,
      inl refl,
      c.in_err-pass_on_unless.ensures.fault.1,
      inv.no_input_failed,
    )

pub returns-clause-fault : goal.returns-clause-fault
returns-clause-fault g c =
    let inv = c.loop-number.invariant in
    let left = left_of c.loop-number.self.messages (g.S.Source.left c.loop-number.input) in
    let counted = inv.so_far.counted in
    let most : 2 ^ 64 - 1 ≤ c.loop-number.number = search rules in (
      begun g.O.Sink.taken g.O.Sink.failed g.O.Sink.flush_gives c.args.on.now.records.now
          c.args.on.now.map.map.now c.loop-number.number
          (g.S.Source.left c.args.input.now) left c.args.out.now c.loop-number.out inv.so_far
          inv.none_failed c.pass_on_unless.new.out
          c.in_ok-pass_on_unless.ensures.passed_on.0,
      record {
        read = c.loop-number.self.messages.at_hand;
        left_is = hand_of inv.so_far.done c.loop-number.self.messages.at_hand
            (g.S.Source.left c.args.input.now) (g.S.Source.left c.loop-number.input)
            inv.so_far.left_is;
        cause = inr (inv.no_input_failed, inr (omega arith));
      },
      (c.loop-number.out, c.in_ok-pass_on_unless.ensures.passed_on.1),
    )
