use Rattle.olr_records.proofs.ReaderSteps.{records_at_start}
use Rattle.olr_records.proofs.records.Records.new.Goals as goal

pub returns : goal.returns
returns c = records_at_start _ _ c.from_reader-reader.ensures.state
    c.from_reader-reader.ensures.source
