-- There is at most one list of joined pieces that has the same steps.
use Rattle.std.proofs.lemmas.Bool.{cases_lt}
use Rattle.olr_report.proofs.Common.{AreApart, IsJoined, IsNotEmpty, IsRouteOver, Piece, piece_length, Step, steps_in, steps_of, ◌≡◌, ℕ, zero, suc, ◌+◌, ◌<◌, Some, List, [], ◌∷◌, ◌++◌, length, inl, inr, refl, sym, ap, ◌∙◌, subst, add-zero, arith, slice_get, append_cancel_left, All-head, All-tail, none-some, same_Some}
use Rattle.olr_report.proofs.StepLists.{stretch, length-steps_in}

-- ---- the step at an index

pub slice_get-append_left : {X : Type 0} (s r : List X) (k : ℕ) → k < length s
    → slice_get (s ++ r) k ≡ slice_get s k
slice_get-append_left [] r k inside = absurd (omega (arith, inside))
slice_get-append_left (x ∷ s) r zero inside = refl
slice_get-append_left (x ∷ s) r (suc k) inside = slice_get-append_left s r k (omega (arith, inside))

pub slice_get-append_right : {X : Type 0} (s r : List X) (k : ℕ)
    → slice_get (s ++ r) (length s + k) ≡ slice_get r k
slice_get-append_right [] r k =
    let same : 0 + k ≡ k = omega arith in
    rw same
slice_get-append_right (x ∷ s) r k =
    let same : suc (length s) + k ≡ suc (length s + k) = omega arith in
    rw same (slice_get-append_right s r k)

pub slice_get-stretch : (line from count k : ℕ) → k < count
    → slice_get (stretch line from count) k ≡ Some (record { line = line; at = from + k })
slice_get-stretch line from zero k inside = absurd (omega (arith, inside))
slice_get-stretch line from (suc count) zero inside = rw (add-zero from)
slice_get-stretch line from (suc count) (suc k) inside =
    let next : from + suc k ≡ from + 1 + k = omega arith in
    rw next (slice_get-stretch line (from + 1) count k (omega (arith, inside)))

-- within the first piece
pub step_inside : (piece : Piece) (steps : List Step) (k : ℕ) → k < piece_length piece
    → slice_get (steps_in piece ++ steps) k
    ≡ Some (record { line = piece.line; at = piece.from + k })
step_inside piece steps k inside =
    slice_get-append_left (steps_in piece) steps k (omega (arith, inside, length-steps_in piece))
    ∙ slice_get-stretch piece.line piece.from (piece_length piece) k inside

-- behind it
pub step_behind : (piece : Piece) (steps : List Step) (k : ℕ)
    → slice_get (steps_in piece ++ steps) (piece_length piece + k) ≡ slice_get steps k
step_behind piece steps k =
    subst (λ (count : ℕ). slice_get (steps_in piece ++ steps) (count + k) ≡ slice_get steps k)
    (length-steps_in piece) (slice_get-append_right (steps_in piece) steps k)

-- the first step of pieces is that of the first one
first_step : (piece : Piece) (rest : List Piece) → IsNotEmpty piece
    → slice_get (steps_of (piece ∷ rest)) 0 ≡ Some (record { line = piece.line; at = piece.from })
first_step piece rest positive =
    cc (step_inside piece (steps_of rest) 0 (omega (arith, positive)), add-zero piece.from)

-- ---- the first pieces of two lists with the same steps

apart_tail : (piece : Piece) (rest : List Piece) → AreApart (piece ∷ rest) → AreApart rest
apart_tail piece [] apart = tt
apart_tail piece (next ∷ rest) apart = apart.1

joined_tail : (piece : Piece) (rest : List Piece) → IsJoined (piece ∷ rest) → IsJoined rest
joined_tail piece rest joined = record {
  not_empty = All-tail IsNotEmpty piece rest joined.not_empty;
  apart = apart_tail piece rest joined.apart;
}

-- the first piece doesn't end before a piece that drives on along the same line
not_shorter : (piece other : Piece) (rest others : List Piece) → IsJoined (piece ∷ rest)
    → steps_of (piece ∷ rest) ≡ steps_of (other ∷ others)
    → piece.line ≡ other.line → piece.from ≡ other.from → piece.to < other.to → ⊥
not_shorter piece other [] others joined same line from shorter =
    let forwards = All-head IsNotEmpty piece [] joined.not_empty in
    none-some (record { line = other.line; at = other.from + (piece_length piece + 0) })
    (sym (step_behind piece (steps_of []) 0)
    ∙ ap (λ (steps : List Step). slice_get steps (piece_length piece + 0)) same
    ∙ step_inside other (steps_of others) (piece_length piece + 0) (omega (arith, forwards)))
not_shorter piece other (next ∷ rest) others joined same line from shorter =
    let forwards = All-head IsNotEmpty piece (next ∷ rest) joined.not_empty in
    let goes_on = All-head IsNotEmpty next rest
    (joined_tail piece (next ∷ rest) joined).not_empty in
    let steps = same_Some (record { line = next.line; at = next.from })
    (record { line = other.line; at = other.from + (piece_length piece + 0) })
    (sym (first_step next rest goes_on) ∙ sym (step_behind piece (steps_of (next ∷ rest)) 0)
    ∙ ap (λ (steps : List Step). slice_get steps (piece_length piece + 0)) same
    ∙ step_inside other (steps_of others) (piece_length piece + 0) (omega (arith, forwards))) in
    let at : next.from ≡ other.from + (piece_length piece + 0) =
    ap (λ (step : Step). step.at) steps in
    joined.apart.0 (record {
      same_line = line ∙ sym (ap (λ (step : Step). step.line) steps);
      same_position = omega (arith, at, forwards, from);
    })

same_parts : (line from to on start end : ℕ) → line ≡ on → from ≡ start → to ≡ end
    → ◌≡◌ {A = Piece} (record { line = line; from = from; to = to })
    (record { line = on; from = start; to = end })
same_parts line from to on start end same_line same_from same_to = cc

same_piece : (piece other : Piece) → piece.line ≡ other.line → piece.from ≡ other.from
    → piece.to ≡ other.to → piece ≡ other
same_piece piece other line from to =
    same_parts piece.line piece.from piece.to other.line other.from other.to line from to

same_end : (piece other : Piece) (rest others : List Piece) → IsJoined (piece ∷ rest)
    → IsJoined (other ∷ others) → steps_of (piece ∷ rest) ≡ steps_of (other ∷ others)
    → piece.line ≡ other.line → piece.from ≡ other.from → piece.to ≡ other.to
same_end piece other rest others joined others_joined same line from =
    elim (cases_lt piece.to other.to) [
      | inl less ↦ absurd (not_shorter piece other rest others joined same line from less)
      | inr more ↦ elim (cases_lt other.to piece.to) [
        | inl less ↦ absurd (not_shorter other piece others rest others_joined (sym same) (sym line)
            (sym from) less)
        | inr same_to ↦ omega arith
      ]
    ]

-- ---- whole lists

same_pieces : (a b : List Piece) → IsJoined a → IsJoined b → steps_of a ≡ steps_of b → a ≡ b
same_pieces [] [] a_joined b_joined same = refl
same_pieces [] (other ∷ others) a_joined b_joined same =
    absurd (none-some (record { line = other.line; at = other.from })
    (ap (λ (steps : List Step). slice_get steps 0) same
    ∙ first_step other others (All-head IsNotEmpty other others b_joined.not_empty)))
same_pieces (piece ∷ rest) [] a_joined b_joined same =
    absurd (none-some (record { line = piece.line; at = piece.from })
    (ap (λ (steps : List Step). slice_get steps 0) (sym same)
    ∙ first_step piece rest (All-head IsNotEmpty piece rest a_joined.not_empty)))
same_pieces (piece ∷ rest) (other ∷ others) a_joined b_joined same =
    let steps = same_Some (record { line = piece.line; at = piece.from })
    (record { line = other.line; at = other.from })
    (sym (first_step piece rest (All-head IsNotEmpty piece rest a_joined.not_empty))
    ∙ ap (λ (steps : List Step). slice_get steps 0) same
    ∙ first_step other others (All-head IsNotEmpty other others b_joined.not_empty)) in
    let line : piece.line ≡ other.line = ap (λ (step : Step). step.line) steps in
    let from : piece.from ≡ other.from = ap (λ (step : Step). step.at) steps in
    let here : piece ≡ other = same_piece piece other line from
    (same_end piece other rest others a_joined b_joined same line from) in
    let behind : steps_of rest ≡ steps_of others =
    append_cancel_left (steps_in piece) (steps_of rest) (steps_of others) (same
    ∙ ap (λ (p : Piece). steps_in p ++ steps_of others) (sym here)) in
    let tails = same_pieces rest others (joined_tail piece rest a_joined)
    (joined_tail other others b_joined) behind in cc

pub one_route : (steps : List Step) (a b : List Piece) → IsRouteOver steps a → IsRouteOver steps b
    → a ≡ b
one_route steps a b a_is b_is = same_pieces a b a_is.joined b_is.joined (cc)
