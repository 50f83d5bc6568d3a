-- What reading a source to its end does: to the bytes that it has left, and to its count of
-- failures.
use Rattle.std.specs.Prelude.{◌≡◌, ℕ, List, Option}
use Rattle.std.specs.Io.KnownBytes.{Consumes, IsAtEnd}
use Rattle.olr_base.specs.Counting.{one_more}
use Rattle.olr_records.specs.declared.reading.ReadFault.{ReadFault}
use Rattle.olr_records.specs.declared.reading.ReadFault.TheVariants.{Failed, NoMemory}

-- the source gave this text, if what it has left is known, and has nothing left
pub record IsWhole (old_left new_left : Option (List ℕ)) (text : List ℕ) : Type 0 where
  pub consumed : Consumes old_left new_left text
  pub at_end : IsAtEnd new_left

-- One call failed and was counted; or, for `NoMemory`, no call failed, and nothing is stated of why
-- there is no memory.
abbrev pub IsReadFault : ℕ → ℕ → ReadFault → Type 0
IsReadFault old new Failed = new ≡ one_more old
IsReadFault old new NoMemory = new ≡ old
