-- The lines of an input. LF is the byte 10.
use Rattle.std.specs.Prelude.{ℕ, ◌==◌, if◌then◌else◌, List, [], ◌∷◌}
use Rattle.std.specs.Str.Lines.{strip_carriage_return}

-- a byte at the front of the first line; where there is no line, it is one
abbrev pub onto : ℕ → List (List ℕ) → List (List ℕ)
onto byte [] = (byte ∷ []) ∷ []
onto byte (line ∷ lines) = (byte ∷ line) ∷ lines

-- the lines of an input, which is split at each LF; what follows the last LF is a line where it
-- isn't empty
unfoldable pub lines_of : List ℕ → List (List ℕ)
lines_of [] = []
lines_of (byte ∷ rest) = if byte == 10 then [] ∷ lines_of rest else onto byte (lines_of rest)

-- the record of a line: the line without the one CR at its end, if it has one
abbrev pub record_of : List ℕ → List ℕ
record_of line = strip_carriage_return line
