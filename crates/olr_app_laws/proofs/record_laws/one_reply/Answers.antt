use Rattle.olr_app_laws.proofs.OneReply.{one_reply}
use Rattle.olr_app_laws.proofs.record_laws.one_reply.Goals as goal

pub returns : goal.returns
returns c = one_reply c.laws_below.ensures
