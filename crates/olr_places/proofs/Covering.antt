-- The steps on a line that pieces cover, by the pieces of this line.
use Rattle.std.specs.List.Sorted.{IsPartitionPoint}
use Rattle.olr_places.proofs.Common.{Piece, stretch, Step, AreCovered, covers, has_step, ◌≡◌, ℕ, zero, suc, ◌+◌, ◌-◌, ◌<◌, ◌≤◌, ◌⊎◌, Bool, true, false, List, ◌∷◌, length, get_or, take, drop, All, refl, sym, ap, subst, ◌∙◌, inl, inr, arith, MatchBool, ◌&&◌, ◌==◌, nat_lt, nat_le, Any, Contains, cases_lt, and_parts, eqb-true, leb-true, ltb-true, nat_tests, get_or-drop, get_or-take, length-drop, length-take-le, All-nil, All-cons, All-from_get_or, All-get_or, list_any_none, list_any_at}

-- ---- one piece

abbrev pub step_at : ℕ → ℕ → Step
step_at line at = record { line = line; at = at }

has : (line at : ℕ) (piece : Piece) → piece.line ≡ line → piece.from ≤ at → at < piece.to
    → has_step (step_at line at) piece ≡ true
has line at piece on from to = grind (arith, nat_tests)

elsewhere : (line at : ℕ) (piece : Piece) → (piece.line ≡ line → ⊥)
    → has_step (step_at line at) piece ≡ false
elsewhere line at piece off = grind (arith, nat_tests)

ahead : (line at : ℕ) (piece : Piece) → at < piece.from → has_step (step_at line at) piece ≡ false
ahead line at piece before = grind (arith, nat_tests)

behind_it : (line at : ℕ) (piece : Piece) → piece.to ≤ at → has_step (step_at line at) piece ≡ false
behind_it line at piece past = grind (arith, nat_tests)

pub has_from : (step : Step) (piece : Piece) → piece.line ≡ step.line → piece.from ≤ step.at
    → step.at < piece.to → has_step step piece ≡ true
has_from step piece on from to = has _ _ _ on from to

pub has_parts : (step : Step) (piece : Piece) → has_step step piece ≡ true
    → (piece.line ≡ step.line) × (piece.from ≤ step.at) × (step.at < piece.to)
has_parts step piece is = grind (arith, and_parts, nat_le, nat_lt, eqb-true, leb-true, ltb-true)

-- ---- steps on one line

pub all_stretch : (P : Step → Type 0) (line at count : ℕ)
    → ((k : ℕ) → at ≤ k → k < at + count → P (step_at line k)) → All P (stretch line at count)
all_stretch P line at zero each = All-nil P
all_stretch P line at (suc count) each = grind (
  arith,
  All-cons,
  stretch,
  all_stretch P line (at + 1) count (λ k low high. each k (omega arith) (omega arith)),
)

-- ---- pieces among others

same_piece : (line from to on start end : ℕ) → line ≡ on → from ≡ start → to ≡ end
    → ◌≡◌ {A = Piece} (record { line = line; from = from; to = to })
    (record { line = on; from = start; to = end })
same_piece line from to on start end same_line same_from same_to = cc

eq_piece : (piece other : Piece)
    → true ≡ ((piece.line == other.line) && ((piece.from == other.from) && (piece.to == other.to)))
    → piece ≡ other
eq_piece piece other is = grind (arith, and_parts, same_piece, eqb-true)

behind_first : (first : Piece) (behind : List Piece) (other : Piece) → Contains behind other
    → Contains (first ∷ behind) other
behind_first first behind other there = (suc there.0, omega arith, there.2)

-- a piece that is the first one of some, and those behind it, are among them
pub first_among : (pieces : List Piece) (first : Piece) (behind : List Piece) (piece : Piece)
    → pieces ≡ first ∷ behind
    → true ≡ ((first.line == piece.line) && ((first.from == piece.from) && (first.to == piece.to)))
    → Contains pieces piece × ((other : Piece) → Contains behind other → Contains pieces other)
first_among pieces first behind piece is same = rw is (
  subst (Contains (first ∷ behind)) (eq_piece _ _ same) (0, omega arith, refl),
  behind_first _ _,
)

-- and so are those of a list that lacks one more at the front
pub behind_among : (pieces : List Piece) (first : Piece) (behind : List Piece)
    → pieces ≡ first ∷ behind → (other : Piece) → Contains behind other → Contains pieces other
behind_among pieces first behind is = rw is (behind_first _ _)

-- ---- pieces of which each step is covered

pub piece_covered : (pieces some : List Piece) (piece : Piece) → AreCovered pieces some
    → Contains some piece → piece.from ≤ piece.to → All (λ (step : Step). covers pieces step ≡ true)
    (stretch piece.line piece.from (piece.to - piece.from))
piece_covered pieces some piece are there forwards =
    all_stretch (λ (step : Step). covers pieces step ≡ true) _ _ _
    (λ k low high. are piece there (step_at piece.line k)
    (has piece.line k piece refl low (omega arith)))

-- ---- the pieces of one line among pieces by line

module _ (pieces : List Piece) (line first behind : ℕ) (inside : behind ≤ length pieces)
    (starts : first ≤ length pieces)
    (to_first : IsPartitionPoint (λ (piece : Piece). piece.line < line)
    (λ (piece : Piece). line ≤ piece.line) pieces first)
    (to_behind : IsPartitionPoint (λ (piece : Piece). piece.line ≤ line)
    (λ (piece : Piece). line < piece.line) pieces behind) where
  nothing : Piece
  nothing = record { line = 0; from = 0; to = 0 }

  pub forward : first ≤ behind
  forward = elim (cases_lt behind first) [
    | inl less ↦ absurd
        (omega (
          arith,
          to_first.0 behind nothing (omega arith) less,
          to_behind.1 behind nothing (omega arith) (omega arith),
        ))
    | inr not_less ↦ omega arith
  ]

  abbrev part : List Piece
  part = take (behind - first) (drop first pieces)

  size : length part ≡ behind - first
  size = grind (arith, length-take-le, length-drop, forward)

  item : (k : ℕ) (d : Piece) → k < behind - first → get_or part k d ≡ get_or pieces (first + k) d
  item k d lt = grind (arith, get_or-take, get_or-drop)

  on_line : (k : ℕ) (d : Piece) → k < behind - first → (get_or pieces (first + k) d).line ≡ line
  on_line k d lt = grind arith

  -- ---- a stretch of steps

  module _ (at end : ℕ) (before : at < end) where
    covered : Any (λ (piece : Piece). (piece.from ≤ at) × (end ≤ piece.to)) part → (k : ℕ) → at ≤ k
        → k < end → covers pieces (step_at line k) ≡ true
    covered found k low high =
        let near : found.0 < behind - first = omega (arith, size) in
        let same : get_or pieces (first + found.0) found.1 ≡ found.1 =
        sym (item found.0 found.1 near) ∙ found.3 in
        let on : found.1.line ≡ line = ap (λ (piece : Piece). piece.line) (sym same)
        ∙ on_line found.0 found.1 near in
        list_any_at (has_step (step_at line k)) pieces (first + found.0) found.1 (omega arith)
        (ap (has_step (step_at line k)) same ∙ has line k found.1 on (omega arith) (omega arith))

    one_missing : All (λ (piece : Piece). (end ≤ piece.from) ⊎ (piece.to ≤ at)) part → (k : ℕ)
        → at ≤ k → k < end → (i : ℕ) → i < length pieces
        → has_step (step_at line k) (get_or pieces i nothing) ≡ false
    one_missing all k low high i within = elim (cases_lt i first) [
      | inl less ↦ elsewhere line k (get_or pieces i nothing)
          (λ on. omega (arith, to_first.0 i nothing (omega arith) less))
      | inr not_less ↦ elim (cases_lt i behind) [
        | inr past ↦ elsewhere line k (get_or pieces i nothing)
            (λ on. omega (arith, to_behind.1 i nothing (omega (arith, past)) within))
        | inl near ↦
            let short : i - first < behind - first = omega arith in
            let same : get_or part (i - first) nothing ≡ get_or pieces i nothing =
            item (i - first) nothing short ∙ ap (λ (j : ℕ). get_or pieces j nothing)
            (let e : first + (i - first) ≡ i = omega arith in e) in
            let one = All-get_or (λ (piece : Piece). (end ≤ piece.from) ⊎ (piece.to ≤ at)) part
            (i - first) nothing (omega (arith, size)) all in
            elim (rw same at one) [
              | inl later ↦ ahead line k (get_or pieces i nothing) (omega arith)
              | inr over ↦ behind_it line k (get_or pieces i nothing) (omega arith)
            ]
      ]
    ]

    missing : All (λ (piece : Piece). (end ≤ piece.from) ⊎ (piece.to ≤ at)) part → (k : ℕ) → at ≤ k
        → k < end → covers pieces (step_at line k) ≡ false
    missing all k low high = list_any_none (has_step (step_at line k)) pieces
        (All-from_get_or (λ (piece : Piece). has_step (step_at line k) piece ≡ false) pieces nothing
        (one_missing all k low high))

    pub alike : (is_covered : Bool)
        → MatchBool is_covered (Any (λ (piece : Piece). (piece.from ≤ at) × (end ≤ piece.to)) part)
        (All (λ (piece : Piece). (end ≤ piece.from) ⊎ (piece.to ≤ at)) part)
        → All (λ (step : Step). covers pieces step ≡ is_covered) (stretch line at (end - at))
    alike true found = all_stretch (λ (step : Step). covers pieces step ≡ true) line at (end - at)
        (λ k low high. covered found k low (omega arith))
    alike false all = all_stretch (λ (step : Step). covers pieces step ≡ false) line at (end - at)
        (λ k low high. missing all k low (omega arith))
