use Rattle.std.proofs.Common.{rules, arith, string_bytes, subst}
use Rattle.olr_text.proofs.Nesting.{items_nest}
use Rattle.olr_text.specs.JsonValues.{IsJsonLine}
use Rattle.olr_report.specs.ShownMap.{map_shown}
use Rattle.olr_detail.proofs.Written.{same_listing}
use Rattle.olr_detail.proofs.listing.listing_json.Goals as goal

pub to_json_line-requires : goal.to_json_line-requires
to_json_line-requires c = search (rules, arith, items_nest)

pub returns : goal.returns
returns c = subst (λ value. IsJsonLine value (string_bytes c.in_ok-text.text))
    (same_listing (map_shown c.args.on.now) c.args.details.now) c.in_ok-text.ensures
