use Rattle.olr_batch.proofs.Common.{◌≡◌, rules, true, [], refl, inl, inr, subst, ◌∙◌, List, ℕ, Appends, message_of, HasStopped, exit}
use Rattle.olr_batch.proofs.Stepping.{may_ask, same, same_passed, takes_after, where_found}
use Rattle.olr_batch.proofs.answering.Answering.next.Goals as goal

pub returns-in_err-pass_on_unless-clause-fault : goal.returns-in_err-pass_on_unless-clause-fault
returns-in_err-pass_on_unless-clause-fault g c =
    rw (exit c.from_residual.ensures.1, c.in_err-pass_on_unless.ensures.fault.0) (
      c.args.out.now,
      [],
      same,
      inl refl,
      c.in_err-pass_on_unless.ensures.fault.1,
      refl,
    )

pub returns-in_default-put_whole-clause-fault : goal.returns-in_default-put_whole-clause-fault
returns-in_default-put_whole-clause-fault g c =
    let is_found : c.in-Ok.found ≡ true = search rules in
    let reads = where_found _ _ _ is_found c.in-Ok.ensures.moves in (
      c.pass_on_unless.new.out,
      c.write_record.new.line.items,
      same_passed c.holds_whole-is_at_hand.result
          c.in_ok-pass_on_unless.ensures.passed_on,
      inr (record {
        line = reads.line;
        said = message_of c.content-content.result;
        is_next = reads.is_next;
        says = c.content-content.ensures reads.line reads.is_front;
        written = c.in_ok-write_record.ensures.written;
      }),
      subst (λ (bytes : List ℕ). HasStopped g.O.Sink.taken g.O.Sink.failed g.O.Sink.put_gives
          g.O.Sink.flush_gives bytes c.pass_on_unless.new.out
          c.put_whole.new.out) c.deref.ensures.value c.in_default-put_whole.ensures.stopped,
      c.in-Ok.ensures.none_failed,
    )

pub returns-clause-moves : goal.returns-clause-moves
returns-clause-moves g c =
    let is_found : c.in-Ok.found ≡ true = search rules in
    let reads = where_found _ _ _ is_found c.in-Ok.ensures.moves in
    let passed = same_passed c.holds_whole-is_at_hand.result
    c.in_ok-pass_on_unless.ensures.passed_on in
    record {
      output = c.write_record.new.line.items;
      of_next = record {
        line = reads.line;
        said = message_of c.content-content.result;
        is_next = reads.is_next;
        says = c.content-content.ensures reads.line reads.is_front;
        written = c.in_ok-write_record.ensures.written;
      };
      took = takes_after c.put_whole.new.out
          c.write_record.new.line.items passed
          (subst (λ (bytes : List ℕ). Appends (g.O.Sink.taken c.pass_on_unless.new.out)
          (g.O.Sink.taken c.put_whole.new.out) bytes)
          c.deref.ensures.value c.in-Ok-put_whole.ensures.whole);
      none_failed = c.in-Ok-put_whole.ensures.none_failed ∙ passed.none_failed;
    }

pub next_record-requires : goal.next_record-requires
next_record-requires g c = record {
  may_ask = may_ask _ _ _ c.holds_whole-is_at_hand.result _ _ _ c.holds_whole-is_at_hand.ensures
      c.in_ok-pass_on_unless.ensures.passed_on;
}
