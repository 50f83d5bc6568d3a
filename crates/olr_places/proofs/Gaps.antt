-- Gaps, with one matching more behind.
use Rattle.olr_places.proofs.Common.{KeyValue, gap_of, Entry, ◌≡◌, ◌≤◌, List, [], ◌∷◌, ◌++◌, length, refl, arith}

-- the gap of a matching is the same with one more behind the others
pub gap_stays : (before : List Entry) (one : Entry) (key : KeyValue) → 1 ≤ length before
    → gap_of (before ++ one ∷ []) key ≡ gap_of before key
gap_stays [] one key some = absurd (omega arith)
gap_stays (first ∷ others) one key some = refl

-- the gap of the next matching is the same with it
pub gap_of_next : (before : List Entry) (one : Entry)
    → gap_of (before ++ one ∷ []) one.key ≡ gap_of before one.key
gap_of_next [] one = omega arith
gap_of_next (first ∷ others) one = refl
