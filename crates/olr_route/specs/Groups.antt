-- Lines in groups: by the node at which they start, and the least length to their start in
-- decimetres.
use Rattle.std.specs.Prelude.{◌≡◌, ◌<◌, ◌⊎◌, ℕ, List, [], ◌∷◌, ◌++◌, Option, None, Some, IsSome, MatchOption, Vec}
use Rattle.std.specs.Ordering.{nat_cmp, ordering_then}
use Rattle.std.specs.declared.cmp.Ordering.{Ordering}
use Rattle.std.specs.BTreeMap.{get}
use Rattle.std.specs.declared.alloc.Global.{Global}
use Rattle.olr_route.specs.declared.groups.Groups.{Groups}

-- the order of the groups: by length, and those of one length by node
abbrev pub by_key : ℕ × ℕ → ℕ × ℕ → Ordering
by_key key other = ordering_then (nat_cmp key.0 other.0) (nat_cmp key.1 other.1)

-- the items of a list that is found, else none
abbrev pub items_in : {A : Type 0} → Option (Vec A Global) → List A
items_in None = []
items_in (Some list) = list.items

-- the lines of the group of a node and a length
abbrev pub group_of : Groups → ℕ → ℕ → List ℕ
group_of groups node length = items_in (get by_key groups.table (length, node))

-- there is a group of a length and a node
abbrev pub HasGroup : Groups → ℕ × ℕ → Type 0
HasGroup groups key = IsSome (get by_key groups.table key)

-- A line was put into the group of a node and a length.
pub record IsAdded (node length line : ℕ) (before after : Groups) : Type 0 where
  pub here : group_of after node length ≡ group_of before node length ++ line ∷ []
  pub elsewhere : (other_node other_length : ℕ)
      → ((other_node ≡ node) × (other_length ≡ length) → ⊥)
      → group_of after other_node other_length ≡ group_of before other_node other_length
  pub groups : (other : ℕ × ℕ) → HasGroup after other → HasGroup before other
      ⊎ (other ≡ (length, node))

-- a length and a node come before others: the length is less, or the same and the node less
abbrev pub IsBefore : ℕ × ℕ → ℕ × ℕ → Type 0
IsBefore key other = (key.0 < other.0) ⊎ ((key.0 ≡ other.0) × (key.1 < other.1))

-- the last group before a length and a node, if there is one: the groups between the two have no
-- line
abbrev pub IsLastBefore : Groups → ℕ × ℕ → Option (ℕ × ℕ) → Type 0
IsLastBefore groups key found = MatchOption found
    ((length node : ℕ) → IsBefore (length, node) key → group_of groups node length ≡ [])
    (λ last. HasGroup groups last × IsBefore last key
    × ((length node : ℕ) → IsBefore (length, node) key → IsBefore last (length, node)
    → group_of groups node length ≡ []))
