use Rattle.std.proofs.lemmas.Result.{IfOk-weaker}
use Rattle.olr_app.proofs.Common.{string_bytes, values_of, ◌∙◌}
use Rattle.olr_app.proofs.PagesOf.{collection_of_pages, texts_of_pages}
use Rattle.olr_app.proofs.matching.text_of_pages.Goals as goal

pub returns-in_default : goal.returns-in_default
returns-in_default c = texts_of_pages _ _ _ _ _ _ _ c.in_default.not-GeoJson c.in_ok-added.ensures

pub returns : goal.returns
returns c =
    let routes = c.args.routes.now in
    let asked = c.args.asked.now in
    IfOk-weaker c.page_collection.result _ _
    (λ output makes. collection_of_pages asked.extras routes.road routes.layers c.args.mark.now
    (values_of c.args.pages.now) asked.format (string_bytes c.in_ok-added.added)
    (string_bytes output) c.in-GeoJson.is c.in_ok-added.ensures _ _
    c.next_behind.ensures c.as_ref.ensures.value (λ all is. makes all (c.deref.ensures ∙ is)))
    c.page_collection.ensures
