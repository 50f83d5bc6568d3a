-- How far worths lie below the greatest one, in numbers without a sign.
use Rattle.std.specs.Prelude.{ℕ, ◌+◌, ◌-◌, min, ℤ, pos, ◌+ℤ◌, nat_abs, if◌then◌else◌, int_le, List, [], ◌∷◌, map}

-- the least of numbers; 0 where there is none
abbrev pub least_of : List ℕ → ℕ
least_of [] = 0
least_of (number ∷ []) = number
least_of (number ∷ next ∷ rest) = min number (least_of (next ∷ rest))

-- how far a number lies above 0, or 0
abbrev pub above_zero : ℤ → ℕ
above_zero number = if int_le (pos 0) number then nat_abs number else 0

-- how far it lies below, or 0
abbrev pub below_zero : ℤ → ℕ
below_zero number = if int_le (pos 0) number then 0 else nat_abs number

-- how far none of these is ahead of the place that loses least
abbrev pub lead_of : ℤ → List ℕ → ℤ
lead_of none losses = none +ℤ pos (least_of losses)

-- how far places that lose this lie below the greatest worth of all
abbrev pub places_below : ℤ → List ℕ → List ℕ
places_below none losses =
    map (λ lost. (lost - least_of losses) + above_zero (lead_of none losses)) losses
