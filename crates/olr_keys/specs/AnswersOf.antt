-- The answers of a table, listed. What makes this list the right one is AreAnswers alone: these
-- definitions only show that every table has one.
use Rattle.std.specs.Prelude.{ℕ, zero, suc, ◌+◌, List, [], ◌∷◌, ◌++◌, length, map, Option, None, Some}
use Rattle.std.specs.Cmp.Lexicographic.{slice_cmp}
use Rattle.std.specs.FinMap.{from_entries, keys}
use Rattle.std.specs.Ordering.{nat_cmp}
use Rattle.std.specs.declared.cmp.Ordering.{Ordering}
use Rattle.olr_keys.specs.Table.{Penalties, count_of, penalty_at}
use Rattle.olr_keys.specs.Key.{KeyValue}
use Rattle.olr_keys.specs.Matching.{leg_to}

-- ---- all keys, in no order

-- the lists of the numbers from 1 to the last one, one after the other
unfoldable pub lists_up_to : {X : Type 0} → ℕ → (ℕ → List X) → List X
lists_up_to zero list = []
lists_up_to (suc last) list = lists_up_to last list ++ list (suc last)

-- the completions that begin with a candidate of this rank, from those of the next layer: none
-- where there is no such candidate, or no leg to it
unfoldable pub completions_with : Option ℕ → Option ℕ → ℕ → List KeyValue → List KeyValue
completions_with None penalty rank further = []
completions_with (Some leg) None rank further = []
completions_with (Some leg) (Some penalty) rank further =
    map (λ (key : KeyValue). record { total = leg + penalty + key.total; ranks = rank ∷ key.ranks })
    further

-- the ranks and the total of each completion through so many layers, from a layer on, after the
-- candidate before it
unfoldable pub completions : Penalties → ℕ → ℕ → Option ℕ → List KeyValue
completions penalties zero layer before = record { total = 0; ranks = [] } ∷ []
completions penalties (suc left) layer before =
    lists_up_to (count_of penalties layer) (λ (rank : ℕ).
    completions_with (leg_to penalties layer before rank) (penalty_at penalties layer rank) rank
    (completions penalties left (layer + 1) (Some rank)))

-- ---- the same in order, each once

-- the order of keys, as a comparison
abbrev pub by_key : KeyValue → KeyValue → Ordering
by_key a b = slice_cmp nat_cmp (a.total ∷ a.ranks) (b.total ∷ b.ranks)

abbrev pub entry_of : KeyValue → KeyValue × Unit {0}
entry_of key = (key, tt)

-- the answers of a table
unfoldable pub answers_of : Penalties → List KeyValue
answers_of penalties =
    keys (from_entries {R = by_key}
    (map entry_of (completions penalties (length penalties.candidates) 0 None)))
