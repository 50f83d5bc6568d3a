use Rattle.olr_detail.proofs.Written.{same_rows}
use Rattle.olr_detail.proofs.listing.listing_text.Goals as goal

pub returns : goal.returns
returns c = rw (c.in_ok-push_texts.ensures, c.new-text.ensures.bytes)
    (same_rows c.args.map.now 1 c.args.details.now)
