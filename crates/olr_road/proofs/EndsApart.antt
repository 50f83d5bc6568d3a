-- How far apart on an axis the nodes can be from which and to which lines lead.
use Rattle.std.proofs.lemmas.Bool.{cases_eq}
use Rattle.olr_road.proofs.Common.{RoadMap, RoadLine, ◌≡◌, ℕ, zero, suc, ◌+◌, ◌≤◌, ◌⊎◌, List, length, get_or, set, Some, inl, inr, ap, ◌∙◌, arith, length-set, get_or-set_other, slice_get, sum, abs_diff, sum_by-set, slice_get_within, Joins}

same_line : (lines : List RoadLine) (one other : ℕ) (line found : RoadLine) → other ≡ one
    → slice_get lines one ≡ Some line → slice_get lines other ≡ Some found → line ≡ found
same_line lines one other line found same is at = cc

farther : (from to start near more : ℕ) → abs_diff from start ≤ near → abs_diff from to ≤ more
    → abs_diff to start ≤ near + more
farther from to start near more one other = omega arith

module _ (road : RoadMap) (position : ℕ → ℕ) (start : ℕ) where
  abbrev IsNear : ℕ → ℕ → Type 0
  IsNear near node = abs_diff (position node) start ≤ near

  -- each line is as long as its ends are apart, but for what is left at its rank; or it ends near
  -- the start in any case
  abbrev AreLong : List ℕ → ℕ → Type 0
  AreLong left near = (rank : ℕ) (line : RoadLine) → slice_get road.lines rank ≡ Some line
      → (abs_diff (position line.from) (position line.to) ≤ line.length + get_or left rank 0)
      ⊎ IsNear near line.to

  -- A line from a node near the start ends near it, with what is left at its rank. That is used up
  -- then, for the line ends near the start whenever it is driven again.
  module _ (left : List ℕ) (near rank : ℕ) (line : RoadLine)
      (is : slice_get road.lines rank ≡ Some line) (long : AreLong left near)
      (here : IsNear near line.from) where
    ends_near : IsNear (near + (line.length + get_or left rank 0)) line.to
    ends_near = elim (long rank line is) [
      | inl apart ↦ farther _ _ _ _ _ here apart
      | inr already ↦ omega arith
    ]

    used_up : AreLong (set left rank 0) (near + (line.length + get_or left rank 0))
    used_up other found at = elim (cases_eq other rank) [
      | inl same ↦
          let ends = ends_near in
          inr (rw (← (same_line _ _ _ _ _ same is at)) ends)
      | inr differs ↦ elim (long other found at) [
        | inl apart ↦ inl (omega (arith, get_or-set_other left rank other 0 0 differs))
        | inr already ↦ inr (omega arith)
      ]
    ]

  -- lines that join lead no farther than they are long, with all that is left: once for each line,
  -- however often it is driven
  pub climb : (count from to long near : ℕ) (left : List ℕ) → Joins road count from to long
      → length left ≡ length road.lines
      → AreLong left near → IsNear near from → IsNear (near + long + sum left) to
  climb zero from to long near left joins size are here = omega (arith, ap position joins.0)
  climb (suc count) from to long near left (rank, line, more, is, begins, rest, adds) size are
      here =
      let begin : IsNear near line.from = rw begins here in
      let end = climb count line.to to more (near + (line.length + get_or left rank 0)) (set _ _ 0)
      rest (length-set left rank 0 ∙ size)
      (used_up left near rank line is are begin) (ends_near left near rank line is are begin) in
      omega (
        arith,
        sum_by-set (λ (n : ℕ). n) left rank 0 0
            (omega (arith, slice_get_within road.lines rank line is)),
      )
