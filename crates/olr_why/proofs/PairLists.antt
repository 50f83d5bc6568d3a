-- Lists of pairs: those of a first candidate by their indices, and those of all, row by row.
use Rattle.olr_why.proofs.Common.{all_at, Candidate, greatest_admitted, PairLength, Place, ◌≡◌, ℕ, ◌+◌, ◌*◌, ◌<◌, ◌≤◌, List, [], ◌∷◌, ◌++◌, length, get_or, sym, ◌∙◌, ap, arith, All, None, Some, slice_get, add-mul, mul-le-mul_right, one-mul, get_or-append-add, get_or_append_left, length-append, get_or_from_slice_get, slice_get-get_or, slice_get_within, push_each, ArePairs, IsPairLength, ArePairsFrom, IsAnswered, IsPair, IsPairAt}
use Rattle.olr_why.specs.declared.pairs.LegOnMap.{LegOnMap}
use Rattle.olr_why.proofs.PairLengths.{still_answered}

-- what a list of pairs is read with past its end
abbrev pub no_pair : PairLength
no_pair = record { first = 0; second = 0; length = None; better = None }

-- ---- the pairs of a first candidate

module _ (leg : LegOnMap) {end first : ℕ} {from : Place} where
  -- a pair of the second candidate that is read at an index
  pub pair_at : (index : ℕ) (d : Candidate) {pair : PairLength}
      → IsPair leg end first (index + 1) from (get_or leg.seconds.now index d).place pair
      → IsPairAt leg end first from index pair
  pair_at index d is to to_is = rw (get_or_from_slice_get leg.seconds.now index to d to_is) at is

  -- the pair that is read at an index, of the second candidate that is read there
  pub read_at : (index : ℕ) (d : Candidate) (none : PairLength) {pairs : List PairLength}
      → index < length leg.seconds.now → ArePairsFrom leg end first from pairs
      → IsPair leg end first (index + 1) from (get_or leg.seconds.now index d).place
      (get_or pairs index none)
  read_at index d none inside are =
      are.each index _ (slice_get-get_or _ index none (omega (arith, are.count))) _
      (slice_get-get_or _ index d inside)

  -- each pair is answered, so that the class limit isn't looked at
  pub all_answered : {pairs : List PairLength}
      → All (IsAnswered (greatest_admitted leg.tolerances leg.next)) pairs
      → ArePairsFrom leg end first from pairs → ArePairsFrom leg (end + 1) first from pairs
  all_answered all so_far = record {
    count = so_far.count;
    each = λ index pair is to to_is.
        still_answered (all_at (IsAnswered (greatest_admitted leg.tolerances leg.next)) _ index pair
        all is) (so_far.each index pair is to to_is);
  }

-- ---- row by row

before_end : {X : Type 0} (xs ys : List X) (k : ℕ) (x : X) → k < length xs
    → slice_get (xs ++ ys) k ≡ Some x → slice_get xs k ≡ Some x
before_end xs ys k x inside is = slice_get-get_or xs k x inside
    ∙ ap Some (sym (get_or_append_left xs ys x k inside)
    ∙ get_or_from_slice_get (xs ++ ys) k x x is)

behind_end : {X : Type 0} (xs ys : List X) (k : ℕ) (x : X)
    → slice_get (xs ++ ys) (length xs + k) ≡ Some x → slice_get ys k ≡ Some x
behind_end xs ys k x is = slice_get-get_or ys k x
    (omega (arith, slice_get_within (xs ++ ys) (length xs + k) x is, length-append xs ys))
    ∙ ap Some (sym (get_or-append-add xs ys k x)
    ∙ get_or_from_slice_get (xs ++ ys) (length xs + k) x x is)

-- the pairs of one first candidate more
pub one_more_first : (leg : LegOnMap) (firsts : List Candidate) (first : Candidate) {rank : ℕ}
    {pairs row : List PairLength} → rank ≡ length firsts + 1
    → ArePairs leg.map.now leg.tolerances leg.next firsts leg.seconds.now pairs
    → ArePairsFrom leg 8 rank first.place row
    → ArePairs leg.map.now leg.tolerances leg.next (firsts ++ first ∷ []) leg.seconds.now
    (pairs ++ row)
one_more_first leg firsts first {rank} {pairs} {row} ranks so_far more =
    let width = length leg.seconds.now in
    let rows = ap (λ n. n * width) (length-append firsts (first ∷ [])) in
    record {
      count =
          omega (arith, length-append pairs row, add-mul (length firsts) 1 width, one-mul width);
      each = λ index second from to pair from_is to_is pair_is.
          push_each (λ k at. slice_get (pairs ++ row) (k * width + second) ≡ Some pair
          → IsPairLength leg.map.now leg.tolerances leg.next 8 (k + 1) (second + 1) at.place
          to.place pair) firsts first
          (λ k at is here.
          let below : (k + 1) * width ≤ length firsts * width =
          mul-le-mul_right width (omega (arith, slice_get_within firsts k at is)) in
          so_far.each k second at to pair is to_is (before_end pairs row _ pair (omega (
            arith,
            below,
            add-mul k 1 width,
            one-mul width,
            slice_get_within leg.seconds.now second to to_is,
          )) here))
          (λ here. rw ranks at (more.each second pair
          (behind_end pairs row second pair (rw (← so_far.count) at here)) to to_is))
          index from from_is pair_is;
    }
