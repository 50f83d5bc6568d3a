-- Steps on one line, and the steps of a route behind a number of them.
use Rattle.std.proofs.Common.{◌≡◌, ℕ, zero, suc, ◌+◌, ◌-◌, ◌<◌, ◌≤◌, true, List, [], ◌∷◌, ◌++◌, All, length, take, drop, sym, ap, subst, ◌∙◌, arith, append_assoc}
use Rattle.std.proofs.lemmas.Bool.Decides.{nat_tests}
use Rattle.std.proofs.lemmas.Bool.{and_parts, eqb-true, leb-true, ltb-true}
use Rattle.std.proofs.lemmas.List.Elements.{All-cons, All-head, All-nil, All-tail}
use Rattle.std.proofs.lemmas.List.{drop-append-le}
use Rattle.std.proofs.Math.Seq.{drop-append-add}
use Rattle.std.specs.Prelude.{nat_le, nat_lt}
use Rattle.olr_places.specs.Missing.{has_step}
use Rattle.olr_report.proofs.StepLists.{drop-stretch, length-steps_in, stretch, stretch-add}
use Rattle.olr_report.specs.Steps.{Step, steps_in, steps_of}
use Rattle.olr_route.specs.Walk.{piece_length}
use Rattle.olr_route.specs.declared.piece.Piece.{Piece}

abbrev pub step_at : ℕ → ℕ → Step
step_at line at = record { line = line; at = at }

pub has_from : (step : Step) (piece : Piece) → piece.line ≡ step.line → piece.from ≤ step.at
    → step.at < piece.to → has_step step piece ≡ true
has_from step piece on from to = grind (arith, nat_tests)

pub has_parts : (step : Step) (piece : Piece) → has_step step piece ≡ true
    → (piece.line ≡ step.line) × (piece.from ≤ step.at) × (step.at < piece.to)
has_parts step piece is = grind (arith, and_parts, nat_le, nat_lt, eqb-true, leb-true, ltb-true)

-- ---- a part of a list

module _ {X : Type 0} (P : X → Type 0) where
  fewer : (n : ℕ) (xs : List X) → All P (take (suc n) xs) → All P (take n xs)
  fewer zero xs are = All-nil P
  fewer (suc n) [] are = All-nil P
  fewer (suc n) (x ∷ xs) are = All-cons P x (take n xs) (All-head P x (take (suc n) xs) are)
      (fewer n xs (All-tail P x (take (suc n) xs) are))

  -- what holds of these and of the first `n` of those behind them holds of the first `n` of both
  pub all_before : (n : ℕ) (first more : List X) → All P first → All P (take n more)
      → All P (take n (first ++ more))
  all_before n [] more these those = those
  all_before zero (x ∷ first) more these those = All-nil P
  all_before (suc n) (x ∷ first) more these those =
      All-cons P x (take n (first ++ more)) (All-head P x first these)
      (all_before n first more (All-tail P x first these) (fewer n more those))

  pub first_of_all : (n : ℕ) (x : X) (xs : List X) → All P (take (suc n) (x ∷ xs)) → P x
  first_of_all n x xs are = All-head P x (take n xs) are

-- ---- steps on one line

pub all_stretch : (P : Step → Type 0) (line at count : ℕ)
    → ((k : ℕ) → at ≤ k → k < at + count → P (step_at line k)) → All P (stretch line at count)
all_stretch P line at zero each = All-nil P
all_stretch P line at (suc count) each = grind (
  arith,
  All-cons,
  stretch,
  all_stretch P line (at + 1) count (λ k low high. each k (omega arith) (omega arith)),
)

-- ---- steps of a route

-- behind the steps of the first piece
pub drop_piece : (piece : Piece) (rest : List Piece) (n : ℕ)
    → drop (piece_length piece + n) (steps_of (piece ∷ rest)) ≡ drop n (steps_of rest)
drop_piece piece rest n =
    ap (λ (count : ℕ). drop (count + n) (steps_of (piece ∷ rest))) (sym (length-steps_in piece))
    ∙ drop-append-add (steps_in piece) (steps_of rest) n

-- from a position of the first piece on
pub drop_to : (piece : Piece) (rest : List Piece) (at : ℕ) → piece.from ≤ at → at ≤ piece.to
    → drop (at - piece.from) (steps_of (piece ∷ rest))
    ≡ stretch piece.line at (piece.to - at) ++ steps_of rest
drop_to piece rest at low high =
    let n : ℕ = at - piece.from in
    let inside : n ≤ length (steps_in piece) = omega (arith, length-steps_in piece) in
    let next : piece.from + n ≡ at = omega arith in
    let left : piece_length piece - n ≡ piece.to - at = omega arith in
    drop-append-le n (steps_in piece) (steps_of rest) inside
    ∙ ap (λ (steps : List Step). steps ++ steps_of rest)
    (drop-stretch piece.line piece.from (piece_length piece) n (omega arith)
    ∙ ap (λ (k : ℕ). stretch piece.line k (piece_length piece - n)) next
    ∙ ap (λ (count : ℕ). stretch piece.line at count) left)

-- from an earlier position of it on
pub drop_earlier : (piece : Piece) (rest : List Piece) (at k : ℕ) → piece.from ≤ at → at ≤ k
    → k ≤ piece.to → drop (at - piece.from) (steps_of (piece ∷ rest))
    ≡ stretch piece.line at (k - at) ++ drop (k - piece.from) (steps_of (piece ∷ rest))
drop_earlier piece rest at k low up high =
    let whole : piece.to - at ≡ (k - at) + (piece.to - k) = omega arith in
    let next : at + (k - at) ≡ k = omega arith in
    let rest_steps : List Step = steps_of rest in
    drop_to piece rest at low (omega arith)
    ∙ ap (λ (count : ℕ). stretch piece.line at count ++ rest_steps) whole
    ∙ ap (λ (steps : List Step). steps ++ rest_steps)
    (stretch-add piece.line at (k - at) (piece.to - k)
    ∙ ap (λ (position : ℕ). stretch piece.line at (k - at)
    ++ stretch piece.line position (piece.to - k)) next)
    ∙ append_assoc (stretch piece.line at (k - at)) (stretch piece.line k (piece.to - k)) rest_steps
    ∙ ap (λ (steps : List Step). stretch piece.line at (k - at) ++ steps)
    (sym (drop_to piece rest k (omega arith) high))

-- the first of the steps from a position on
pub first_step : (P : Step → Type 0) (piece : Piece) (rest : List Piece) (k n : ℕ) → piece.from ≤ k
    → k < piece.to → All P (take (suc n) (drop (k - piece.from) (steps_of (piece ∷ rest))))
    → P (step_at piece.line k)
first_step P piece rest k n low high are =
    let more : piece.to - k ≡ suc (piece.to - k - 1) = omega arith in
    let is : drop (k - piece.from) (steps_of (piece ∷ rest))
    ≡ stretch piece.line k (suc (piece.to - k - 1)) ++ steps_of rest =
    drop_to piece rest k low (omega arith)
    ∙ ap (λ (count : ℕ). stretch piece.line k count ++ steps_of rest) more in
    first_of_all P n (step_at piece.line k)
    (stretch piece.line (k + 1) (piece.to - k - 1) ++ steps_of rest)
    (subst (λ (steps : List Step). All P (take (suc n) steps)) is are)
