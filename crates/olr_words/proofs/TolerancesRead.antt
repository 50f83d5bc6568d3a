-- The numbers for tolerances while they are read, one name after the other.
use Rattle.olr_words.proofs.Common.{◌≡◌, ℕ, ◌<◌, get_or, length, Option, None, order_of}
use Rattle.std.proofs.Common.{List}
use Rattle.olr_candidates.specs.Tolerances.{tolerance_name}
use Rattle.olr_candidates.specs.declared.tolerances.Tolerance.{Tolerance}
use Rattle.olr_words.specs.Given.{IsNumberOf}

-- those before a place are read
pub record AreRead (text_of : List ℕ → Option (List ℕ)) (k : ℕ) (numbers : List (Option ℕ)) : Type 0
  where
    pub each : (name : Tolerance) → order_of name < k
        → IsNumberOf (text_of (tolerance_name name)) (get_or numbers (order_of name) None)
    pub size : length numbers ≡ 6
