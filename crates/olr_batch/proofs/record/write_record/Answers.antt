use Rattle.olr_batch.proofs.record.write_record.Goals as goal

pub returns-in_ok-write_text-in-Text : goal.returns-in_ok-write_text-in-Text
returns-in_ok-write_text-in-Text c = rw c.in-Text.is (record {
  records = c.in_ok-write_text-in-Text.ensures.records;
  map = c.in_ok-write_text-in-Text.ensures.map;
  written = c.in_ok-write_text-in-Text.ensures.line;
})
