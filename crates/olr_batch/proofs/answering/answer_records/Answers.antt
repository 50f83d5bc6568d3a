use Rattle.olr_batch.proofs.Common.{Bor, refl, subst, exit, RoadMap, IsStopped}
use Rattle.olr_batch.proofs.Stopping.{none_begun}
use Rattle.olr_batch.proofs.answering.answer_records.Goals as goal

pub returns-in_err-new-clause-fault : goal.returns-in_err-new-clause-fault
returns-in_err-new-clause-fault g c =
    rw (exit c.from_residual.ensures.1) (
      none_begun g.O.Sink.taken g.O.Sink.failed g.O.Sink.flush_gives c.args.records.now
          c.args.map.now (g.S.Source.left c.args.input.now) c.args.out.now,
      refl,
    )

pub returns-in_err-all-clause-fault : goal.returns-in_err-all-clause-fault
returns-in_err-all-clause-fault g c =
    rw (exit c.from_residual-in_err-all.ensures.1)
    (subst (λ (map : Bor RoadMap). IsStopped g.S.Source.left g.S.Source.failed g.O.Sink.taken
    g.O.Sink.failed g.O.Sink.put_gives g.O.Sink.flush_gives c.args.records.now map.now
    c.args.input.now c.all.new.input c.args.out.now c.all.new.out c.in_err-all.field-0.0)
    c.new.ensures c.in_err-all.ensures.fault)
