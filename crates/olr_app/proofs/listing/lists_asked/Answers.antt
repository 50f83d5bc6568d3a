use Rattle.std.proofs.lemmas.Result.{IfOk-weaker}
use Rattle.olr_app.proofs.Common.{lists_of, string_bytes, subst}
use Rattle.olr_app.proofs.Listings.{listed_in_detail}
use Rattle.olr_app.specs.Listing.{IsListingTextWith}
use Rattle.olr_detail.specs.Listing.{details_of}
use Rattle.olr_report.specs.ShownMap.{map_shown}
use Rattle.olr_app.proofs.listing.lists_asked.Goals as goal

pub returns-in_ok-details : goal.returns-in_ok-details
returns-in_ok-details c =
    let on = c.args.on.now in
    let details = details_of c.in_ok-details.details.items in
    rw c.if-extras.true (IfOk-weaker c.printed_details.result _ _
    (λ text is. listed_in_detail c.args.extras.now c.args.format on.tolerances on.reference.now
    on.map.now (lists_of c.args.lists.now) details (string_bytes text) c.in_ok-details.ensures
    (subst (λ shown. IsListingTextWith c.args.format shown details (string_bytes text))
    c.new-shown.ensures (subst (λ list. IsListingTextWith c.args.format
    (map_shown c.new-shown.result) (details_of list) (string_bytes text)) c.deref.ensures.value
    is))) c.printed_details.ensures)
