-- Laws on the texts of cursors. Each is the contract of a public function that does nothing at run
-- time.
use Rattle.std.specs.Prelude.{◌≡◌, ℕ, List, Option, Result, Ok, IfSome}
use Rattle.olr_keys.specs.Cursor.{IsCursorOf, IsMark, IsReading, cursor_text}
use Rattle.olr_keys.specs.Key.{KeyValue, IsInRange}
use Rattle.olr_keys.specs.declared.cursor.BadCursor.{BadCursor}
use Rattle.olr_keys.specs.declared.cursor.CursorRead.{CursorRead}
use Rattle.olr_keys.specs.declared.mark.Mark.{Mark}

-- a text is the cursor of one key at most, and of one mark or of none
abbrev pub OneCursor : Type 0
OneCursor = (text : List ℕ) (key key' : KeyValue) (mark mark' : Option Mark)
    → IsCursorOf key mark text → IsCursorOf key' mark' text → (key ≡ key') × (mark ≡ mark')

-- reading the text of a key in range, and perhaps of a mark, gives them back
abbrev pub ReadsBack : Type 0
ReadsBack = (key : KeyValue) (mark : Option Mark) (result : Result CursorRead BadCursor)
    → IsInRange key → IfSome mark IsMark → IsReading (cursor_text key mark) result
    → result ≡ Ok record { key = key; mark = mark }
