-- How deep the values of JSON nest that are made of others.
use Rattle.std.proofs.Common.{ℕ, List, [], ◌∷◌, map, Option, None, Some}
use Rattle.serde_json.specs.Data.{Data}
use Rattle.serde_json.specs.View.{items_of}
use Rattle.olr_text.specs.JsonValues.{ItemsNestWithin, NestsWithin, or_null}

module _ {A : Type 0} (value : A → Data) (most : ℕ) (each : (a : A) → NestsWithin most (value a))
  where
    pub items_nest : (all : List A) → ItemsNestWithin most (items_of (map value all))
    items_nest [] = tt
    items_nest (a ∷ all) = (each a, items_nest all)

    pub option_nests : (option : Option A) → NestsWithin most (or_null value option)
    option_nests None = tt
    option_nests (Some a) = each a
