use Rattle.olr_text.proofs.ListTexts.{of_values}
use Rattle.olr_app.proofs.Common.{ArrayVec, Candidate, point_listing}
use Rattle.olr_app.proofs.listing.text_of_lists.Goals as goal

pub returns : goal.returns
returns c = rw (c.in_ok-push_texts.ensures, c.new-text.ensures.bytes)
    (of_values (point_listing c.args.map.now) (λ (list : ArrayVec Candidate). list.items) 1
    c.args.lists.now)
