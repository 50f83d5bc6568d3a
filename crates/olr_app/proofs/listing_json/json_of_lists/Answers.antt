use Rattle.olr_app.proofs.Common.{rules, string_bytes, subst, IsJsonLine}
use Rattle.olr_app.proofs.Listings.{same_lists}
use Rattle.olr_app.proofs.listing_json.json_of_lists.Goals as goal
use Rattle.olr_text.proofs.Nesting.{items_nest}

pub to_json_line-requires : goal.to_json_line-requires
to_json_line-requires c = search (rules, items_nest)

pub returns : goal.returns
returns c = subst (λ value. IsJsonLine value (string_bytes c.in_ok-text.text))
    (same_lists _ c.args.lists.now) c.in_ok-text.ensures
