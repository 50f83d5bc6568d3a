use Rattle.olr_batch.proofs.Common.{◌≡◌, left_of, IsWrittenTo}
use Rattle.olr_batch.proofs.answering.Answering.all.Given as goal

-- what is written for the records so far has been written, and no device failed
abbrev pub invariant-loop-number : goal.invariant-loop-number
invariant-loop-number g l = record {
  records_are : l.on.records ≡ l.initial.on.records;
  map_is : l.on.map.map ≡ l.initial.on.map.map;
  so_far : IsWrittenTo l.initial.on.records.now l.initial.on.map.map.now l.number
      (g.S.Source.left l.initial.input)
      (left_of l.self.messages (g.S.Source.left l.input)) (g.O.Sink.taken l.initial.out)
      (g.O.Sink.taken l.out);
  none_failed : g.O.Sink.failed l.out ≡ g.O.Sink.failed l.initial.out;
  no_input_failed : g.S.Source.failed l.input ≡ g.S.Source.failed l.initial.input;
}
