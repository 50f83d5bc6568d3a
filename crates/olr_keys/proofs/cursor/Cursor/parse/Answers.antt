use Rattle.std.proofs.Common.{arith}
use Rattle.olr_keys.proofs.Lacking.{lacks_uncut, cut_at}
use Rattle.olr_keys.proofs.CursorText.{no_key, parts_of}
use Rattle.olr_keys.proofs.cursor.Cursor.parse.Goals as goal

pub returns-in_default-key_of : goal.returns-in_default-key_of
returns-in_default-key_of c = no_key
    (lacks_uncut _ c.split_once.ensures.cases (omega arith) c.in_default.is)
    c.in_default-key_of.ensures

pub returns-in_default-key_of-2 : goal.returns-in_default-key_of-2
returns-in_default-key_of-2 c key mark cursor =
    let cut = cut_at _ _
    c.split_once.ensures.cases (omega arith) c.in-Some.is in
    let parts = parts_of cut _ cursor in
    c.in_default-key_of-2.ensures key cursor.in_range parts.key_is

pub returns-in_default-mark_of : goal.returns-in_default-mark_of
returns-in_default-mark_of c key mark cursor =
    let cut = cut_at _ _
    c.split_once.ensures.cases (omega arith) c.in-Some.is in
    let parts = parts_of cut _ cursor in
    c.in_default-mark_of.ensures parts.its parts.is_mark parts.digits_are
