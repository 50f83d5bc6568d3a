-- The cursor of a matching, as JSON has it.
use Rattle.arrayvec.specs.ArrayString.{ArrayString}
use Rattle.std.proofs.Common.{◌≡◌, Option, None, Some, refl, ap, option_map}
use Rattle.std.specs.Borrow.{Bor}
use Rattle.serde_json.specs.Data.{string}
use Rattle.olr_keys.specs.Cursor.{key_text}
use Rattle.olr_keys.specs.Key.{KeyValue}
use Rattle.olr_text.specs.JsonValues.{or_null}
use Rattle.olr_legs.specs.Json.{matching_value}

pub same_cursor : (cursor : Option ArrayString) (key : Option (Bor KeyValue))
    → option_map (λ text. text.bytes) cursor ≡ option_map (λ key. key_text key.now) key
    → or_null (λ text. string text.bytes) cursor
    ≡ matching_value (option_map (λ key. key.now) key)
same_cursor None None is = refl
same_cursor None (Some key) is = absurd (cc)
same_cursor (Some cursor) None is = absurd (cc)
same_cursor (Some cursor) (Some key) is =
    let text : cursor.bytes ≡ key_text key.now = cc in
    ap string text
