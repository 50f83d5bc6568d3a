use Rattle.olr_app.proofs.Common.{Mark, Page, AreLayers, ArePages, ArePagesIn, IsPrinted, IsStartHere, OnLayers, OnStart, values_of, List, Option, subst, string_bytes, IsMarkOf, IsPagesText}
use Rattle.olr_app.proofs.PagesOf.{keys_of_pages}
use Rattle.olr_app.proofs.PagesOf.{fault_after, fault_here}
use Rattle.olr_app.proofs.Single.{exit}
use Rattle.olr_app.proofs.matching.matchings_of.Goals as goal

pub returns-in_err-known-clause-fault : goal.returns-in_err-known-clause-fault
returns-in_err-known-clause-fault c =
    let asked = c.args.asked.now in
    let accepted = c.args.accepted.now in
    let marks = c.args.marks in
    let road = c.args.map.now in
    rw (exit c.from_residual.ensures.1)
    (fault_here (IsStartHere asked road accepted.start)
    (OnStart marks asked accepted.reference road) c.in_err-known.field-0.0
    c.in_err-known.ensures.fault)

pub returns-in_err-layers-clause-fault : goal.returns-in_err-layers-clause-fault
returns-in_err-layers-clause-fault c =
    let asked = c.args.asked.now in
    let accepted = c.args.accepted.now in
    let marks = c.args.marks in
    let road = c.args.map.now in
    let why = c.in_err-layers.field-0.0 in
    rw (exit c.from_residual-in_err-layers.ensures.1)
    (fault_after (IsStartHere asked road accepted.start)
    (OnStart marks asked accepted.reference road) accepted.start why c.in_ok-known.ensures.here
    (fault_here (AreLayers asked.tolerances accepted.reference road)
    (OnLayers marks asked accepted.start road) why c.in_err-layers.ensures.fault))

pub returns-in_err-pages-clause-fault : goal.returns-in_err-pages-clause-fault
returns-in_err-pages-clause-fault c =
    let asked = c.args.asked.now in
    let accepted = c.args.accepted.now in
    let marks = c.args.marks in
    let road = c.args.map.now in
    let layers = c.in_ok-layers.layers in
    let why = c.in_err-pages.field-0.0 in
    rw (exit c.from_residual-in_err-pages.ensures.1)
    (fault_after (IsStartHere asked road accepted.start)
    (OnStart marks asked accepted.reference road) accepted.start why c.in_ok-known.ensures.here
    (fault_after (AreLayers asked.tolerances accepted.reference road)
    (OnLayers marks asked accepted.start road) layers why c.in_ok-layers.ensures.layers
    (fault_here (ArePages asked layers accepted.start) (IsPrinted marks asked road layers) why
    c.in_err-pages.ensures.fault)))

pub text_of_pages-requires : goal.text_of_pages-requires
text_of_pages-requires c =
    rw (c.with_searches-routes.ensures, c.deref-2.ensures.value)
    (keys_of_pages c.args.asked.now c.in_ok-layers.layers c.args.accepted.now.start
    c.in_ok-pages.pages.items c.in_ok-pages.ensures.pages)

pub returns-clause-text : goal.returns-clause-text
returns-clause-text c =
    let asked = c.args.asked.now in
    let marks = c.args.marks in
    let road = c.args.map.now in
    let layers = c.in_ok-layers.layers in
    let output = string_bytes c.in_ok-output.output in
    let pages = c.in_ok-pages.pages.items in
    let IsMark : List Page → Option Mark → Type 0 =
    λ list. IsMarkOf marks asked.text.now asked.tolerances road (values_of list) in
    let shown : IsPagesText asked.extras asked.format road layers (IsMark pages) (values_of pages) output =
    record {
      mark = c.in_ok-mark.mark;
      is_mark = subst (λ list. IsMark list c.in_ok-mark.mark) c.deref.ensures.value
          c.in_ok-mark.ensures;
      text_is = subst (λ list.
          ArePagesIn asked.format asked.extras road layers c.in_ok-mark.mark (values_of list) output)
          c.deref-2.ensures.value (rw c.with_searches-routes.ensures at c.in_ok-output.ensures);
    } in (
      c.args.accepted.now.start,
      c.in_ok-known.ensures.here,
      (
        layers,
        c.in_ok-layers.ensures.layers,
        (values_of pages, c.in_ok-pages.ensures.pages, shown),
      ),
    )
