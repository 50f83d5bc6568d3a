use Rattle.olr_app.proofs.Common.{subst, string_bytes, Appends, HasStopped, IsWritten}
use Rattle.olr_app.proofs.legs_run.write_legs.Goals as goal

pub returns-in_default-clause-fault : goal.returns-in_default-clause-fault
returns-in_default-clause-fault g c = (
  string_bytes c.in_ok-output.output,
  c.in_ok-output.ensures.output,
  subst (λ bytes. HasStopped g.O.Sink.taken g.O.Sink.failed g.O.Sink.put_gives
      g.O.Sink.flush_gives bytes c.args.out.now c.write_whole.new.out) c.as_bytes.ensures.value
      c.in_default.ensures.stopped,
)

pub returns-clause-answered : goal.returns-clause-answered
returns-clause-answered g c = record {
  output = string_bytes c.in_ok-output.output;
  are_legs = c.in_ok-output.ensures.output;
  took = subst (λ bytes.
      Appends (g.O.Sink.taken c.args.out.now) (g.O.Sink.taken c.write_whole.new.out) bytes)
      c.as_bytes.ensures.value c.in-Ok.ensures.whole;
  written = subst (λ bytes. IsWritten g.O.Sink.put_gives g.O.Sink.flush_gives bytes
      c.args.out.now c.write_whole.new.out) c.as_bytes.ensures.value c.in-Ok.ensures.written;
  none_failed = c.in-Ok.ensures.none_failed;
}
