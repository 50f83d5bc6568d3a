-- A record spells one ban at most: on lines whose ids differ, an id is that of one rank.
use Rattle.olr_map.proofs.Common.{arith, Ban, AllDiffer, RoadLine, line_ids, NamesLines, ◌≡◌, ℕ, List, ◌∙◌, Contains-get_or, get_or_from_slice_get, slice_get_within, IsLineNamed, IsBan, IsUnknownLine}
use Rattle.olr_map.proofs.LineRows.{number_once}
use Rattle.olr_map.proofs.OneRow.{rank_once}

-- a line that a record names is one of the lines
pub named_known : {lines : List RoadLine} {fields : List (List ℕ)} (index : ℕ) {rank : ℕ}
    → IsLineNamed lines fields index rank → IsUnknownLine lines fields index → ⊥
named_known {lines} index {rank} named unknown =
    let ids = line_ids lines in
    let there = get_or_from_slice_get ids rank _ 0 named.line in
    let same = there ∙ number_once 1 _ _ _ named.spelled unknown.1 in
    unknown.2 (rw (← same) (Contains-get_or _ _ 0 (slice_get_within ids rank named.id named.line)))

-- it has one rank
rank_named_once : {lines : List RoadLine} → AllDiffer (line_ids lines)
    → {fields : List (List ℕ)} (index : ℕ) {i j : ℕ} → IsLineNamed lines fields index i
    → IsLineNamed lines fields index j → i ≡ j
rank_named_once {lines} differ index {i} {j} is other =
    grind (arith, number_once, rank_once, slice_get_within, get_or_from_slice_get)

pub named_once : {lines : List RoadLine} → AllDiffer (line_ids lines)
    → {fields : List (List ℕ)} (a b : Ban) → NamesLines lines fields a → NamesLines lines fields b
    → a ≡ b
named_once differ a b is other =
    let from = rank_named_once differ 0 is.from other.from in
    let to = rank_named_once differ 1 is.to other.to in
    λ i. record { from = from i; to = to i }

pub ban_once : {lines : List RoadLine} → AllDiffer (line_ids lines)
    → (fields : List (List ℕ)) (a b : Ban) → IsBan lines fields a → IsBan lines fields b → a ≡ b
ban_once differ fields a b is other = named_once differ a b is.named other.named
