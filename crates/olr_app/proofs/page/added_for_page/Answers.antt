use Rattle.olr_app.proofs.PagesOf.{added_of_parts}
use Rattle.olr_app.proofs.page.added_for_page.Goals as goal

pub page_of_parts-requires-clause-reference : goal.page_of_parts-requires-clause-reference
page_of_parts-requires-clause-reference c = rw (
  c.reference.ensures,
  c.layers-layers.ensures.layers,
) c.layers-layers.ensures.on_map.reference

pub page_of_parts-requires-clause-one_each : goal.page_of_parts-requires-clause-one_each
page_of_parts-requires-clause-one_each c =
    rw c.deref.ensures.value c.in_ok-matched.ensures.one_each

pub page_of_parts-requires-clause-shown : goal.page_of_parts-requires-clause-shown
page_of_parts-requires-clause-shown c = rw (
  c.deref.ensures.value,
  c.tolerances.ensures,
  c.reference.ensures,
  c.map.ensures,
  c.layers-layers.ensures.layers,
  c.matched_on_page.ensures.same,
) c.in_ok-matched.ensures.shown

pub returns-clause-added : goal.returns-clause-added
returns-clause-added c =
    let routes = c.args.routes.now in
    let asked = c.args.asked.now in
    added_of_parts asked.extras routes.road routes.layers _ _ c.in_ok-matched.ensures.each
    asked.format _ _ (rw (
      c.deref.ensures.value,
      c.tolerances.ensures,
      c.reference.ensures,
      c.map.ensures,
      c.layers-layers.ensures.layers,
      c.matched_on_page.ensures.same,
    ) at c.in_ok-added.ensures)
