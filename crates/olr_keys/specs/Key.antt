-- The key of a matching, and the order of keys.
use Rattle.std.specs.Prelude.{◌≡◌, ℕ, ◌<◌, ◌≤◌, ◌⊎◌, ⊤, List, [], ◌∷◌, length, All}
use Rattle.olr_keys.specs.Table.{max_total}

-- the total of a matching's penalties, and the rank of its candidate in each layer
pub record KeyValue : Type 0 where
  pub total : ℕ
  pub ranks : List ℕ

-- the rank of a candidate, 1 to 64
abbrev pub IsRank : ℕ → Type 0
IsRank rank = (1 ≤ rank) × (rank ≤ 64)

-- The ranges of a key: a total of at most `max_total`, which is 14,620, and 2 to 32 ranks, each
-- from 1 to 64. Every matching of a table has such a key.
pub record IsInRange (key : KeyValue) : Type 0 where
  pub total_at_most : key.total ≤ max_total
  pub ranks_at_least : 2 ≤ length key.ranks
  pub ranks_at_most : length key.ranks ≤ 32
  pub each : All IsRank key.ranks

-- lexicographic order of ranks: a list comes before another one
abbrev pub AreBefore : List ℕ → List ℕ → Type 0
AreBefore ranks [] = ⊥
AreBefore [] (other ∷ others) = ⊤
AreBefore (rank ∷ ranks) (other ∷ others) = (rank < other)
    ⊎ ((rank ≡ other) × AreBefore ranks others)

-- The order of keys: by the total, and then by the ranks.
abbrev pub IsBefore : KeyValue → KeyValue → Type 0
IsBefore a b = (a.total < b.total) ⊎ ((a.total ≡ b.total) × AreBefore a.ranks b.ranks)
