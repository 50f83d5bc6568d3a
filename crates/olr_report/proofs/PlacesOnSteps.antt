-- The place at a distance along pieces, while they are gone through.
use Rattle.std.proofs.lemmas.Option.{slice_get-get_or}
use Rattle.olr_report.proofs.Common.{IsNotEmpty, Piece, piece_length, Place, ◌≡◌, ℕ, zero, suc, ◌+◌, ◌-◌, ◌<◌, ◌≤◌, None, Some, List, [], ◌∷◌, ◌++◌, length, drop, get_or, map, refl, ap, ◌∙◌, arith, option_map, drop_more, range_with_len, Step, start_of, end_of, place_at, steps_in, steps_of}
use Rattle.olr_report.proofs.OneRoute.{step_behind, step_inside}

-- ---- one piece and the steps behind it

place_here : (piece : Piece) (behind : List Step) (left : ℕ) → IsNotEmpty piece
    → left ≤ piece_length piece → place_at (steps_in piece ++ behind) left
    ≡ Some (record { line = piece.line; at = piece.from + left })
place_here piece behind zero positive within =
    cc (step_inside piece behind 0 (omega (arith, positive)))
place_here piece behind (suc before) positive within =
    let next : piece.from + before + 1 ≡ piece.from + suc before = omega arith in
    ap (λ step. option_map end_of step) (step_inside piece behind before (omega (arith, within)))
    ∙ ap (λ at. Some (record { line = piece.line; at = at })) next

place_behind : (piece : Piece) (behind : List Step) (left : ℕ) → piece_length piece < left
    → place_at (steps_in piece ++ behind) left ≡ place_at behind (left - piece_length piece)
place_behind piece behind zero past = absurd (omega (arith, past))
place_behind piece behind (suc before) past =
    let at : piece_length piece + (before - piece_length piece) ≡ before = omega (arith, past) in
    let less : suc before - piece_length piece ≡ suc (before - piece_length piece) =
    omega (arith, past) in
    rw less (cc (step_behind piece behind (before - piece_length piece)))

place_past_empty : (piece : Piece) (behind : List Step) (left : ℕ) → piece_length piece ≡ 0
    → place_at (steps_in piece ++ behind) left ≡ place_at behind left
place_past_empty piece behind left empty =
    ap (λ n. place_at (map (λ at. record { line = piece.line; at = at })
    (range_with_len piece.from n) ++ behind) left) empty

-- ---- the pieces that are left

module _ (pieces : List Piece) (i left : ℕ) (d : Piece) (inside : i < length pieces) where
  here : steps_of (drop i pieces)
      ≡ steps_in (get_or pieces i d) ++ steps_of (drop (i + 1) pieces)
  here = cc (drop_more pieces i d inside)

  pub place_found : 0 < piece_length (get_or pieces i d) → left ≤ piece_length (get_or pieces i d)
      → place_at (steps_of (drop i pieces)) left ≡ Some (record {
        line = (get_or pieces i d).line;
        at = (get_or pieces i d).from + left;
      })
  place_found positive within = ap (λ steps. place_at steps left) here
      ∙ place_here (get_or pieces i d) (steps_of (drop (i + 1) pieces)) left
      (omega (arith, positive)) within

  pub place_further : piece_length (get_or pieces i d) < left
      → place_at (steps_of (drop i pieces)) left
      ≡ place_at (steps_of (drop (i + 1) pieces)) (left - piece_length (get_or pieces i d))
  place_further past = ap (λ steps. place_at steps left) here
      ∙ place_behind (get_or pieces i d) (steps_of (drop (i + 1) pieces)) left past

  pub place_past : piece_length (get_or pieces i d) ≡ 0
      → place_at (steps_of (drop i pieces)) left ≡ place_at (steps_of (drop (i + 1) pieces)) left
  place_past empty = ap (λ steps. place_at steps left) here
      ∙ place_past_empty (get_or pieces i d) (steps_of (drop (i + 1) pieces)) left empty

-- ---- there is a place up to the end

pub no_place : (n : ℕ) → None ≡ place_at [] n
no_place zero = refl
no_place (suc n) = refl

pub some_within : (steps : List Step) (n : ℕ) → 0 < length steps → n ≤ length steps
    → (place : Place) × (place_at steps n ≡ Some place)
some_within [] n positive within = absurd (omega (arith, positive))
some_within (step ∷ steps) zero positive within = (start_of step, refl)
some_within (step ∷ steps) (suc before) positive within = (
  end_of (get_or (step ∷ steps) before step),
  ap (option_map end_of)
      (slice_get-get_or (step ∷ steps) before step (omega (arith, within))),
)
