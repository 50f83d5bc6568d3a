use Rattle.olr_detail.proofs.page.detailed_entry.Goals as goal

pub detail_of_matching-requires-clause-route : goal.detail_of_matching-requires-clause-route
detail_of_matching-requires-clause-route c = rw c.deref.ensures.value
    (c.in_ok-entry.ensures.on_map c.args.on.now.map.now c.requires.shown.on_map).route
