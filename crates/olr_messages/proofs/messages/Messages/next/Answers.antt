use Rattle.olr_messages.proofs.Common.{refl, ap, ◌∙◌, length, arith, rules, ◌==◌, one_more, Reading}
use Rattle.std.proofs.lemmas.Result.{err_from_is_err_and}
use Rattle.olr_messages.proofs.Steps.{all_read, cut_off, endless, line_of_hand, line_read, none_given, none_read, not_all, some_given}
use Rattle.olr_messages.proofs.messages.Messages.next.Goals as goal

pub loop-call-init : goal.loop-call-init
loop-call-init g c = record {
  none_failed = refl;
  has_read = none_read c.begin.ensures.at_hand c.begin.ensures.front;
  same_bytes = λ _. c.begin.ensures.at_hand;
  same_front = λ _. c.begin.ensures.front;
  same_source = λ _. refl;
}

pub loop-call-preserved : goal.loop-call-preserved
loop-call-preserved g c =
    let before = c.loop-call.invariant in
    let reads = c.if-read_to_lf.ensures in
    let given = c.in_ok-refill.ensures in
    record {
      none_failed = given.counts ∙ before.none_failed;
      has_read = some_given (all_read before.has_read reads) c.refill.new.self reads.none_at_hand
          given.gives c.if-not-branch.false given.same_line;
      same_bytes = λ has. absurd (not_all reads (before.same_bytes has) has);
      same_front = λ has. absurd (not_all reads (before.same_bytes has) has);
      same_source = λ has. absurd (not_all reads (before.same_bytes has) has);
    }

pub returns-then-read_to_lf-clause-moves : goal.returns-then-read_to_lf-clause-moves
returns-then-read_to_lf-clause-moves g c =
    line_read c.loop-call.invariant.has_read c.if-read_to_lf.ensures

pub returns-then-read_to_lf-clause-at_hand : goal.returns-then-read_to_lf-clause-at_hand
returns-then-read_to_lf-clause-at_hand g c has =
    line_of_hand c.if-read_to_lf.ensures (c.loop-call.invariant.same_bytes has)
    (c.loop-call.invariant.same_front has)

pub returns-then-read_to_lf-2-clause-moves : goal.returns-then-read_to_lf-2-clause-moves
returns-then-read_to_lf-2-clause-moves g c =
    line_read c.loop-call.invariant.has_read c.if-read_to_lf-2.ensures

pub returns-then-read_to_lf-2-clause-at_hand : goal.returns-then-read_to_lf-2-clause-at_hand
returns-then-read_to_lf-2-clause-at_hand g c has =
    line_of_hand c.if-read_to_lf-2.ensures (c.loop-call.invariant.same_bytes has)
    (c.loop-call.invariant.same_front has)

pub returns-in_err-refill-clause-cut_off : goal.returns-in_err-refill-clause-cut_off
returns-in_err-refill-clause-cut_off g c =
    let before = c.loop-call.invariant in
    let reads = c.if-read_to_lf.ensures in
    let given = c.in_err-refill.ensures in
    rw (err_from_is_err_and c.from_residual.result c.from_residual.ensures.1).1
    (cut_off (all_read before.has_read reads) c.refill.new.self _ reads.none_at_hand
    given.none_at_hand given.err (given.counts ∙ ap one_more before.none_failed))

pub returns-then-not-branch-clause-moves : goal.returns-then-not-branch-clause-moves
returns-then-not-branch-clause-moves g c =
    let reads = c.if-read_to_lf.ensures in
    let given = c.in_ok-refill.ensures in
    none_given (all_read c.loop-call.invariant.has_read reads) _ reads.none_at_hand given.gives
    c.if-not-branch.true given.same_line
    (c.is_empty.ensures ∙ ap (λ n. n == 0) (search rules)
    ∙ ap (λ (r : Reading). length r.front == 0) c.self.view_is)

pub returns-clause-cut_off : goal.returns-clause-cut_off
returns-clause-cut_off g c = endless
    (all_read c.loop-call.invariant.has_read c.if-read_to_lf-2.ensures) (omega arith)
    c.loop-call.invariant.none_failed
