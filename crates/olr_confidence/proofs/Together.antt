-- Millionths of a whole, rounded down, are no more than a million together.
use Rattle.std.proofs.Common.{◌≡◌, ◌≤◌, ◌<◌, ℕ, ◌+◌, ◌-◌, ◌*◌, ◌/◌, arith, List, [], ◌∷◌, map, sum, sum_by, refl}
use Rattle.std.proofs.lemmas.List.Sums.{sum_by-cons}
use Rattle.olr_confidence.specs.Power.{power}
use Rattle.olr_confidence.specs.Shares.{millionths_of, probabilities_of, whole_of}

-- a quotient, times what was divided by, is no more than what was divided
back : (a b : ℕ) → 0 < b → a / b * b ≤ a
back a b positive = grind (arith)

-- one more share
one_more : (whole first shares share before all sums : ℕ) → all ≡ first + shares
    → sums ≡ share + before → first * whole ≤ 1000000 * share → shares * whole ≤ 1000000 * before
    → all * whole ≤ 1000000 * sums
one_more whole first shares share before all sums all_is sums_is one more = grind (arith)

-- shares, times the whole, are no more than a million times what they are made of
times : (whole : ℕ) → 0 < whole → (places : List ℕ)
    → sum (map (millionths_of whole) places) * whole ≤ 1000000 * sum_by power places
times whole positive [] = grind (arith)
times whole positive (below ∷ rest) = one_more whole (millionths_of whole below)
    (sum (map (millionths_of whole) rest)) (power below) (sum_by power rest)
    (sum (map (millionths_of whole) (below ∷ rest))) (sum_by power (below ∷ rest))
    (sum_by-cons (λ share. share) (millionths_of whole below) (map (millionths_of whole) rest))
    (sum_by-cons power below rest) (back (1000000 * power below) whole positive)
    (times whole positive rest)

divided : (sum whole parts none : ℕ) → 0 < whole → sum * whole ≤ 1000000 * parts
    → whole ≡ none + parts → sum ≤ 1000000
divided sum whole parts none positive product whole_is = grind (arith)

-- the probabilities of places are no more than a million together
pub at_most_million : (none : ℕ) (places : List ℕ) → 0 < whole_of none places
    → sum (probabilities_of none places) ≤ 1000000
at_most_million none places positive = divided _ (whole_of none places) (sum_by power places)
    (power none) positive (times (whole_of none places) positive places) refl

-- so are numbers that are these
pub bounded : (none whole : ℕ) (places numbers shares : List ℕ) → 0 < whole_of none places
    → whole ≡ whole_of none places → shares ≡ map (millionths_of whole) places
    → numbers ≡ shares → sum numbers ≤ 1000000
bounded none whole places numbers shares positive whole_is shares_are numbers_are =
    rw (numbers_are, shares_are, whole_is) (at_most_million none places positive)

pub together_with : (none whole rest : ℕ) (places numbers shares : List ℕ) → 0 < whole_of none places
    → whole ≡ whole_of none places → shares ≡ map (millionths_of whole) places
    → numbers ≡ shares → rest ≡ sum numbers → sum shares + (1000000 - rest) ≡ 1000000
together_with none whole rest places numbers shares positive whole_is shares_are numbers_are rest_is =
    enough (rw (← numbers_are) rest_is) (rw (shares_are, whole_is) (at_most_million none places positive))
  where
    enough : rest ≡ sum shares → sum shares ≤ 1000000 → sum shares + (1000000 - rest) ≡ 1000000
    enough same small = omega arith
