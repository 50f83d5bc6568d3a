use Rattle.olr_app_laws.proofs.OneRequest.{inputs_by_text}
use Rattle.olr_app_laws.proofs.fingerprint_laws.one_request_by_text.Goals as goal

pub returns : goal.returns
returns c = λ text other a b road another. inputs_by_text _ _ a b _ _
    c.one_map_by_canonical_text.ensures
