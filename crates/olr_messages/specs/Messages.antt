-- What contracts see of the messages of an input, and what a step to the next line does.
use Rattle.std.specs.Prelude.{◌≡◌, ◌≢◌, ℕ, ◌+◌, ◌-◌, ◌^◌, ◌<◌, ◌≤◌, ◌⊎◌, List, [], ◌∷◌, ◌++◌, length, take, Bool, Option, None, Some, All, MatchBool}
use Rattle.std.specs.Io.KnownBytes.{Consumes, IsAtEnd, prepend_known}
use Rattle.olr_base.specs.Counting.{one_more}
use Rattle.olr_messages.specs.Lines.{lines_of}

-- the messages of an input, at one of its lines
pub record Reading : Type 0 where
  -- the bytes at hand, which stand behind the line
  pub at_hand : List ℕ
  -- the front of the line
  pub front : List ℕ

-- the front of a line: the whole line, or so much of it that its record is long in any case
unfoldable pub front_of : List ℕ → List ℕ
front_of line = take 65538 line

-- no byte is LF
abbrev pub HasNoLf : List ℕ → Type 0
HasNoLf bytes = All (λ byte. byte ≢ 10) bytes

-- what is left of an input: the bytes at hand, and those that its source has left, where they are
-- known
abbrev pub left_of : Reading → Option (List ℕ) → Option (List ℕ)
left_of reading left = prepend_known reading.at_hand left

-- this line is the next one of what was left, where that is known, and the lines behind it are left
abbrev pub IsNext : List ℕ → Option (List ℕ) → Option (List ℕ) → Type 0
IsNext line None new = Unit {0}
IsNext line (Some old) None = ⊥
IsNext line (Some old) (Some new) = lines_of old ≡ line ∷ lines_of new

-- the next line is read, and this is its front
pub record ReadsLine (old new : Option (List ℕ)) (front : List ℕ) : Type 0 where
  pub line : List ℕ
  pub is_next : IsNext line old new
  pub is_front : front ≡ front_of line

-- there was no byte left, and the source is at its end
pub record IsOver (old new : Option (List ℕ)) : Type 0 where
  pub none_left : Consumes old new []
  pub at_end : IsAtEnd new

-- Reading stops in the middle of a line: these bytes of what was left are lost, and none of them is
-- LF. One call of the source failed, and was counted. Or none failed, and the line has 2 ^ 64 - 1
-- bytes at least, with those that are at hand.
pub record IsCutOff (old new : Option (List ℕ)) (at_hand : List ℕ)
    (old_failed new_failed : ℕ) : Type 0 where
  pub lost : List ℕ
  pub consumed : Consumes old new lost
  pub no_lf : HasNoLf lost
  pub cause : (new_failed ≡ one_more old_failed)
      ⊎ ((new_failed ≡ old_failed) × (2 ^ 64 - 1 ≤ length lost + length at_hand))

-- ---- the parts of a step

-- where the bytes at hand stand in a chunk, and how many bytes of a line are held, for which there
-- is room
pub record IsSound (chunk : List ℕ) (start stop : ℕ) (line : List ℕ) (room : ℕ) : Type 0 where
  pub ordered : start ≤ stop
  pub inside : stop ≤ length chunk
  pub some : 0 < length chunk
  pub held : length line ≤ 65538
  pub has_room : 65538 ≤ room

-- the bytes at hand are read up to an LF, which is passed over
pub record ReadsToLf (old new : Reading) : Type 0 where
  pub part : List ℕ
  pub split : old.at_hand ≡ part ++ 10 ∷ new.at_hand
  pub no_lf : HasNoLf part
  pub front : new.front ≡ front_of (old.front ++ part)

-- the bytes at hand are read, and there was no LF among them
pub record ReadsAll (old new : Reading) : Type 0 where
  pub none_at_hand : new.at_hand ≡ []
  pub no_lf : HasNoLf old.at_hand
  pub front : new.front ≡ front_of (old.front ++ old.at_hand)

-- a source gave these bytes: one at least, or none where it is at its end
pub record IsGiven (found : Bool) (old new : Option (List ℕ)) (bytes : List ℕ) : Type 0 where
  pub consumed : Consumes old new bytes
  pub cases : MatchBool found (0 < length bytes) ((bytes ≡ []) × IsAtEnd new)
