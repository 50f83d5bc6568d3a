use Rattle.olr_keys.proofs.CursorText as text
use Rattle.olr_keys.proofs.cursor_laws.one_cursor.Goals as goal

pub returns : goal.returns
returns c = text.one_cursor
