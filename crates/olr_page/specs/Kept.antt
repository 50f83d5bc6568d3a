-- What a pointer to a value on the heap owns.
use Rattle.std.specs.Box.Ownership.{box_owns}
use Rattle.std.specs.Prelude.{Option, None, Some}
use base.Fml.{Fml, ftrue}
use denote.RattleType.{RattleType}
use denote.RawPtr.{Ptr}
use mir.Syntax.{Ty}

-- the value and its block, as a box does, if there is a value; else nothing
abbrev pub owned_at : (R : RattleType) → (Ty → Ptr → Fml) → Ptr → Option R.Denot → Fml
owned_at R token at None = ftrue
owned_at R token at (Some value) = box_owns token R at value
