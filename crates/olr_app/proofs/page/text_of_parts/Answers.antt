use Rattle.olr_app.proofs.page.text_of_parts.Goals as goal

pub returns-then-detail : goal.returns-then-detail
returns-then-detail c = rw c.if-detail.true c.text_page_in_detail.ensures

pub returns-else-detail : goal.returns-else-detail
returns-else-detail c = rw c.if-detail.false c.text_page.ensures
