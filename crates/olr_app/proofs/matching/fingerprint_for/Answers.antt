use Rattle.olr_app.proofs.PagesOf.{no_mark_needed}
use Rattle.olr_app.proofs.matching.fingerprint_for.Goals as goal

pub returns-then-have_no_more : goal.returns-then-have_no_more
returns-then-have_no_more c = λ page there more.
    no_mark_needed c.args.pages.now page _ (c.have_no_more.ensures.0 c.if-have_no_more.true) there
    more
