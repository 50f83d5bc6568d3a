use Rattle.olr_app.proofs.Common.{lists_of, string_bytes, subst, IsListingAsAsked}
use Rattle.olr_app.specs.Page.{shown_for}
use Rattle.olr_app.proofs.listing.listing_of.Goals as goal

pub returns-clause-text : goal.returns-clause-text
returns-clause-text c =
    let on = c.args.on.now in
    record {
      lists = lists_of c.in_ok-lists.lists.items;
      candidates = c.in_ok-lists.ensures.lists;
      text_is = subst (λ lists. IsListingAsAsked c.args.extras.now.detail c.args.format on.tolerances
          on.reference.now (shown_for c.args.extras.now on.map.now on.reference.now)
          (lists_of lists) (string_bytes c.in_ok-text.text))
          c.deref.ensures.value c.in_ok-text.ensures;
    }
