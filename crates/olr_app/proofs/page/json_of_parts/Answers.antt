use Rattle.olr_app.proofs.page.json_of_parts.Goals as goal

pub returns-then-extras : goal.returns-then-extras
returns-then-extras c = rw c.if-extras.true c.json_page_in_detail.ensures

pub returns : goal.returns
returns c = rw (c.if-extras.false, ← c.new-shown.ensures) c.json_page_shown.ensures
