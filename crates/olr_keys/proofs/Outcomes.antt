-- What a call gave.
use Rattle.std.proofs.Common.{arith}
use Rattle.olr_keys.proofs.Common.{◌≡◌, ℕ, true, not, List, Option, None, pointwise, MatchOption, Result, Ok, nat_eq}
use Rattle.std.proofs.lemmas.Slice.Eq.{slice_eq-Decides}

-- what has to hold where a call gave none
pub from_none : {X : Type 0} {P : Type 0} (Q : X → Type 0) {found : Option X} → found ≡ None → P
    → MatchOption found P Q
from_none Q none holds = rw none holds

-- a call gave one value
pub same_ok : {X E : Type 0} {r : Result X E} (a b : X) → r ≡ Ok a → r ≡ Ok b → a ≡ b
same_ok a b one other = cc

-- texts that were found to differ aren't the same
pub differ : {a b : List ℕ} → true ≡ not (pointwise nat_eq a b) → a ≡ b → ⊥
differ {a} {b} other same = grind (arith, slice_eq-Decides)
