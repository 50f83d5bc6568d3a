use Rattle.olr_app_laws.proofs.OneLine.{text_is_one_line}
use Rattle.olr_app_laws.proofs.fingerprint_laws.reference_is_one_line.Goals as goal

pub returns : goal.returns
returns c = text_is_one_line
