-- Lists of steps: their lengths, and how they are cut and joined.
use Rattle.std.proofs.lemmas.List.FromFn.{length-map-range_with_len, take-map-range_with_len}
use Rattle.olr_report.proofs.Common.{Piece, piece_length, Step, steps_in, steps_of, ◌≡◌, ℕ, zero, suc, ◌+◌, ◌-◌, ◌≤◌, min, List, [], ◌∷◌, ◌++◌, length, take, drop, map, refl, sym, ap, ◌∙◌, length-append, zero-add, add-zero, arith, drop_at, drop_min, take_min, length-take, sum_by-cons, range_with_len, sum_by}

-- ---- any list

pub drop-append : {X : Type 0} (n : ℕ) (s r : List X)
    → drop n (s ++ r) ≡ drop n s ++ drop (n - length s) r
drop-append zero s r =
    let none : 0 - length s ≡ 0 = omega arith in
    rw none
drop-append (suc n) [] r =
    let all : suc n - 0 ≡ suc n = omega arith in
    rw all
drop-append (suc n) (x ∷ s) r =
    let less : suc n - suc (length s) ≡ n - length s = omega arith in
    rw less (drop-append n s r)

pub take-append : {X : Type 0} (n : ℕ) (s r : List X)
    → take n (s ++ r) ≡ take n s ++ take (n - length s) r
take-append zero s r =
    let none : 0 - length s ≡ 0 = omega arith in
    rw none
take-append (suc n) [] r =
    let all : suc n - 0 ≡ suc n = omega arith in
    rw all
take-append {X = X} (suc n) (x ∷ s) r =
    let less : suc n - suc (length s) ≡ n - length s = omega arith in
    rw less (cc (take-append n s r))

-- the part of two lists behind the first `skip` elements, at most `most` long: that part of the
-- first one, and what is then left of the second one
pub part-append : {X : Type 0} (most skip : ℕ) (s r : List X)
    → take most (drop skip (s ++ r)) ≡ take most (drop skip s)
    ++ take (most - length (take most (drop skip s))) (drop (skip - length s) r)
part-append most skip s r =
    let less : most - length (drop skip s) ≡ most - length (take most (drop skip s)) =
    omega (arith, length-take most (drop skip s)) in
    ap (take most) (drop-append skip s r)
    ∙ take-append most (drop skip s) (drop (skip - length s) r)
    ∙ ap (λ left. take most (drop skip s) ++ take left (drop (skip - length s) r)) less

-- ---- steps on one line

-- the steps of a line from a position on, this many
abbrev pub stretch : ℕ → ℕ → ℕ → List Step
stretch line from count = map (λ at. record { line = line; at = at }) (range_with_len from count)

pub length-stretch : (line from count : ℕ) → length (stretch line from count) ≡ count
length-stretch line from count =
    length-map-range_with_len (λ at. record { line = line; at = at }) from count

pub stretch-add : (line from m n : ℕ)
    → stretch line from (m + n) ≡ stretch line from m ++ stretch line (from + m) n
stretch-add line from zero n = rw (zero-add n, add-zero from)
stretch-add line from (suc m) n =
    let more : suc m + n ≡ suc (m + n) = omega arith in
    let next : from + suc m ≡ from + 1 + m = omega arith in
    rw (more, next) (cc (stretch-add line (from + 1) m n))

pub drop-stretch : (line from n k : ℕ) → k ≤ n
    → drop k (stretch line from n) ≡ stretch line (from + k) (n - k)
drop-stretch line from n k within =
    let whole : k + (n - k) ≡ n = omega arith in
    rw (← whole) (cc (
      stretch-add line from k (n - k),
      drop_at (stretch line from k) (stretch line (from + k) (n - k)) k
          (length-stretch line from k),
    ))

-- the part behind the first `skip` steps, at most `most` long
part-stretch : (line from n skip most : ℕ) → take most (drop skip (stretch line from n))
    ≡ stretch line (from + min skip n) (min most (n - min skip n))
part-stretch line from n skip most =
    let skipped : ℕ = min skip n in
    let rest : List Step = stretch line (from + skipped) (n - skipped) in
    let dropped : drop skip (stretch line from n) ≡ rest = cc (
      drop_min skip (stretch line from n),
      length-stretch line from n,
      drop-stretch line from n skipped (omega arith),
    ) in
    ap (take most) dropped ∙ sym (take_min most rest)
    ∙ ap (λ count. take (min most count) rest) (length-stretch line (from + skipped) (n - skipped))
    ∙ take-map-range_with_len (λ at. record { line = line; at = at }) (from + skipped) (n - skipped)
    (min most (n - skipped)) (omega arith)

-- ---- steps of pieces

pub length-steps_in : (piece : Piece) → length (steps_in piece) ≡ piece_length piece
length-steps_in piece = length-stretch piece.line piece.from (piece_length piece)

pub length-steps_of : (pieces : List Piece) → length (steps_of pieces) ≡ sum_by piece_length pieces
length-steps_of [] = refl
length-steps_of (piece ∷ pieces) = omega (
  arith,
  length-append (steps_in piece) (steps_of pieces),
  length-steps_in piece,
  length-steps_of pieces,
  sum_by-cons piece_length piece pieces,
)

-- the steps of a piece of which the first `skip` decimetres are left out, and which is at most
-- `most` long
pub clipped_steps : (piece clipped : Piece) (skip most : ℕ) → clipped.line ≡ piece.line
    → clipped.from ≡ piece.from + min skip (piece_length piece)
    → clipped.to ≡ clipped.from + min most (piece_length piece - min skip (piece_length piece))
    → steps_in clipped ≡ take most (drop skip (steps_in piece))
clipped_steps piece clipped skip most line from to =
    let count : piece_length clipped
    ≡ min most (piece_length piece - min skip (piece_length piece)) = omega arith in
    let same : steps_in clipped ≡ stretch piece.line (piece.from + min skip (piece_length piece))
    (min most (piece_length piece - min skip (piece_length piece))) = rw (count, line, from) in
    same ∙ sym (part-stretch piece.line piece.from (piece_length piece) skip most)

-- two pieces that touch have the steps of one
pub touching_steps : (first second whole : Piece) → first.line ≡ second.line
    → first.to ≡ second.from → first.from ≤ first.to → second.from ≤ second.to
    → whole.line ≡ first.line → whole.from ≡ first.from → whole.to ≡ second.to
    → steps_in whole ≡ steps_in first ++ steps_in second
touching_steps first second whole line position forwards further same_line same_from same_to =
    let count : piece_length whole ≡ piece_length first + piece_length second = omega arith in
    let next : second.from ≡ first.from + piece_length first = omega arith in
    let all : steps_in whole ≡ stretch first.line first.from
    (piece_length first + piece_length second) = rw (count, same_line, same_from) in
    all ∙ stretch-add first.line first.from (piece_length first) (piece_length second)
    ∙ ap (λ at. steps_in first ++ stretch first.line at (piece_length second)) (sym next)
    ∙ ap (λ on. steps_in first ++ stretch on second.from (piece_length second)) line
