-- The value of a reference nests no deeper than a reader of JSON follows.
use Rattle.olr_binary.proofs.Common.{rules, Reference, Line, PointAlong}
use Rattle.serde_json.specs.Read.{max_depth}
use Rattle.olr_binary.specs.Json.{reference_object}
use Rattle.olr_text.specs.JsonValues.{NestsWithin}
use Rattle.olr_text.proofs.Nesting.{items_nest, option_nests}

pub reference_nests : (reference : Reference) → NestsWithin max_depth (reference_object reference)
reference_nests (Line points positive negative) = search (rules, items_nest, option_nests)
reference_nests (PointAlong points orientation side positive) =
    search (rules, items_nest, option_nests)
