-- What a finder of keys answers.
use Rattle.std.specs.Prelude.{◌≡◌, ◌⊎◌, ⊤, List, Option, None, Some, MatchOption, Contains}
use Rattle.olr_keys.specs.Key.{KeyValue, IsBefore}
use Rattle.olr_keys.specs.Matching.{IsKey}
use Rattle.olr_keys.specs.Table.{Penalties}

-- the key comes after this one, if there is one
abbrev pub IsAfter : Option KeyValue → KeyValue → Type 0
IsAfter None key = ⊤
IsAfter (Some after) key = IsBefore after key

-- a position in a list of keys: at a key of the list, or before the first one
abbrev pub IsPosition : List KeyValue → Option KeyValue → Type 0
IsPosition answers None = ⊤
IsPosition answers (Some after) = Contains answers after

-- the least of all keys that this holds of; none where it holds of no key
abbrev pub IsLeastOf : (KeyValue → Type 0) → Option KeyValue → Type 0
IsLeastOf P found = MatchOption found ((key : KeyValue) → P key → ⊥) (λ least. P least
    × ((key : KeyValue) → P key → (key ≡ least) ⊎ IsBefore least key))

-- the least key of the list after a position; none where no key of the list comes after it
abbrev pub IsNext : List KeyValue → Option KeyValue → Option KeyValue → Type 0
IsNext answers after found = IsLeastOf (λ (key : KeyValue). Contains answers key
    × IsAfter after key) found

-- the same of all matchings of a table: the least key of a matching after a position; none where
-- none comes after it
abbrev pub IsNextKey : Penalties → Option KeyValue → Option KeyValue → Type 0
IsNextKey penalties after found =
    IsLeastOf (λ (key : KeyValue). IsKey penalties key × IsAfter after key) found
