-- Reading points one after the other.
use Rattle.olr_binary.proofs.Common.{◌≡◌, ℕ, zero, suc, ◌+◌, ◌-◌, ◌*◌, ◌<◌, List, [], ◌∷◌, ◌++◌, length, Some, arith, inl, inr, slice_get, Coordinates, Point, place_of, moved, two_bytes_at, IsPoint}
use Rattle.olr_base.proofs.Contained.{first_or_last}

-- the place of a point that isn't the first, from the place of the one before
pub place_of-next : (bytes : List ℕ) (first before : Coordinates) (i : ℕ) → 0 < i
    → before ≡ place_of bytes first (i - 1)
    → moved before (two_bytes_at bytes (3 + 7 * i)) (two_bytes_at bytes (3 + 7 * i + 2))
    ≡ place_of bytes first i
place_of-next bytes first before zero some e = absurd (omega arith)
place_of-next bytes first before (suc i) some e = grind arith

-- one point more at the end
pub each-push : (bytes : List ℕ) (first : Coordinates) (count n : ℕ) (points : List Point)
    (next : Point) → length points ≡ n
    → ((i : ℕ) (point : Point) → slice_get points i ≡ Some point
    → IsPoint bytes first count i point) → IsPoint bytes first count n next
    → (i : ℕ) (point : Point) → slice_get (points ++ next ∷ []) i ≡ Some point
    → IsPoint bytes first count i point
each-push bytes first count n points next len each here i point e =
    elim (first_or_last points next point i e) [
      | inl before ↦ each i point before
      | inr last ↦ rw (last.0, len, ← last.1) here
    ]
