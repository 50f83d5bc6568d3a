use Rattle.olr_app.proofs.Common.{Bans, Lines, Nodes, subst, string_bytes, Appends, HasStopped, IsWritten}
use Rattle.olr_app.proofs.Accepts.{none_refused, passed_on}
use Rattle.olr_app.proofs.AnswerOf as answer
use Rattle.olr_app.proofs.Single.{exit}
use Rattle.olr_app.proofs.answering.run.Goals as goal

-- ---- the request is refused

pub returns-in_err-accepted-clause-refused : goal.returns-in_err-accepted-clause-refused
returns-in_err-accepted-clause-refused g c =
    passed_on c.in_err-accepted.ensures.only (exit c.from_residual.ensures.1)

pub returns-in_err-accepted-clause-fault : goal.returns-in_err-accepted-clause-fault
returns-in_err-accepted-clause-fault g c =
    rw (exit c.from_residual.ensures.1) (answer.not_written _ _ _ _ _ c.args.request.now _ _
    (answer.reason_of_refusal _ _ _ c.in_err-accepted.ensures.accepted))

pub returns-in_err-accepted-clause-nodes_source : goal.returns-in_err-accepted-clause-nodes_source
returns-in_err-accepted-clause-nodes_source g c =
    rw (exit c.from_residual.ensures.1)
    (answer.refusal_leaves _ _ _ Nodes _ c.args.request.now _ c.in_err-accepted.ensures.accepted)

pub returns-in_err-accepted-clause-lines_source : goal.returns-in_err-accepted-clause-lines_source
returns-in_err-accepted-clause-lines_source g c =
    rw (exit c.from_residual.ensures.1)
    (answer.refusal_leaves _ _ _ Lines _ c.args.request.now _ c.in_err-accepted.ensures.accepted)

pub returns-in_err-accepted-clause-bans_source : goal.returns-in_err-accepted-clause-bans_source
returns-in_err-accepted-clause-bans_source g c =
    rw (exit c.from_residual.ensures.1)
    (answer.refusal_leaves _ _ _ Bans _ c.args.request.now _ c.in_err-accepted.ensures.accepted)

-- ---- there is no output

pub returns-in_err-output-clause-refused : goal.returns-in_err-output-clause-refused
returns-in_err-output-clause-refused g c = none_refused c.in_ok-accepted.ensures.only

pub returns-in_err-output-clause-fault : goal.returns-in_err-output-clause-fault
returns-in_err-output-clause-fault g c =
    rw (exit c.from_residual-in_err-output.ensures.1)
    (answer.not_written _ _ _ _ _ c.args.request.now _ _ c.in_err-output.ensures.reason)

pub returns-in_err-output-clause-nodes_source : goal.returns-in_err-output-clause-nodes_source
returns-in_err-output-clause-nodes_source g c =
    rw (exit c.from_residual-in_err-output.ensures.1)
    (answer.same_leaves _ _ _ _ Nodes _ _ c.args.request.now _ c.in_err-output.ensures.nodes_source)

pub returns-in_err-output-clause-lines_source : goal.returns-in_err-output-clause-lines_source
returns-in_err-output-clause-lines_source g c =
    rw (exit c.from_residual-in_err-output.ensures.1)
    (answer.same_leaves _ _ _ _ Lines _ _ c.args.request.now _ c.in_err-output.ensures.lines_source)

pub returns-in_err-output-clause-bans_source : goal.returns-in_err-output-clause-bans_source
returns-in_err-output-clause-bans_source g c =
    rw (exit c.from_residual-in_err-output.ensures.1)
    (answer.same_leaves _ _ _ _ Bans _ _ c.args.request.now _ c.in_err-output.ensures.bans_source)

-- ---- the sink was called

pub returns-in_default-clause-refused : goal.returns-in_default-clause-refused
returns-in_default-clause-refused g c = none_refused c.in_ok-accepted.ensures.only

pub returns-in_default-clause-fault : goal.returns-in_default-clause-fault
returns-in_default-clause-fault g c = (
  string_bytes c.in_ok-output.output,
  c.in_ok-output.ensures.output,
  subst (λ bytes. HasStopped g.O.Sink.taken g.O.Sink.failed g.O.Sink.put_gives
      g.O.Sink.flush_gives bytes c.args.out.now c.write_whole.new.out) c.as_bytes.ensures.value
      c.in_default.ensures.stopped,
)

pub returns-in_default-clause-nodes_source : goal.returns-in_default-clause-nodes_source
returns-in_default-clause-nodes_source g c =
    answer.unwritten_leaves _ _ _ _ Nodes _ _ c.args.request.now _
    c.in_ok-output.ensures.nodes_source

pub returns-in_default-clause-lines_source : goal.returns-in_default-clause-lines_source
returns-in_default-clause-lines_source g c =
    answer.unwritten_leaves _ _ _ _ Lines _ _ c.args.request.now _
    c.in_ok-output.ensures.lines_source

pub returns-in_default-clause-bans_source : goal.returns-in_default-clause-bans_source
returns-in_default-clause-bans_source g c =
    answer.unwritten_leaves _ _ _ _ Bans _ _ c.args.request.now _ c.in_ok-output.ensures.bans_source

pub returns-clause-answered : goal.returns-clause-answered
returns-clause-answered g c = record {
  output = string_bytes c.in_ok-output.output;
  is_output = c.in_ok-output.ensures.output;
  took = subst (λ bytes.
      Appends (g.O.Sink.taken c.args.out.now) (g.O.Sink.taken c.write_whole.new.out) bytes)
      c.as_bytes.ensures.value c.in-Ok.ensures.whole;
  written = subst (λ bytes. IsWritten g.O.Sink.put_gives g.O.Sink.flush_gives bytes
      c.args.out.now c.write_whole.new.out) c.as_bytes.ensures.value c.in-Ok.ensures.written;
  none_failed = c.in-Ok.ensures.none_failed;
}

pub returns-clause-refused : goal.returns-clause-refused
returns-clause-refused g c = none_refused c.in_ok-accepted.ensures.only
