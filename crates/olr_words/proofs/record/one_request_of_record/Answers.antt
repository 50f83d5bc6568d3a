use Rattle.olr_words.proofs.OneRequest.{one_request}
use Rattle.olr_words.proofs.record.one_request_of_record.Goals as goal

pub returns : goal.returns
returns c = one_request
