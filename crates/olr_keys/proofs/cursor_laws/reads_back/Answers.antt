use Rattle.olr_keys.proofs.CursorText as text
use Rattle.olr_keys.proofs.cursor_laws.reads_back.Goals as goal

pub returns : goal.returns
returns c = text.reads_back
